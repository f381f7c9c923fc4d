-- What is read, except for line numbers.
use Rattle.std.proofs.Common.{◌≡◌, ℕ, Bool, true, false, List, [], ◌∷◌, Option, Some, None, Result, Ok, Err, refl, ap, ◌∙◌, map}
use Rattle.std.specs.Prelude.{if◌then◌else◌, is_some}
use Rattle.std.specs.List.{list_any}
use Rattle.std.specs.Option.{option_map}
use Rattle.cfg_ast.specs.declared.items.RouterItem.{RouterItem}
use Rattle.cfg_ast.specs.declared.items.RouterItem.TheVariants as item
use Rattle.cfg_ast.specs.declared.items.PolicyItem.{PolicyItem}
use Rattle.cfg_ast.specs.declared.items.PolicyItem.TheVariants as policy
use Rattle.cfg_ast.specs.declared.refusal.FormFault.{FormFault}
use Rattle.cfg_ast.specs.declared.refusal.FormFault.TheVariants as form_fault
use Rattle.cfg_ast.specs.declared.refusal.ReadRefusal.{ReadRefusal}
use Rattle.cfg_ast.specs.declared.refusal.ReadRefusal.TheVariants as refusal
use Rattle.cfg_ast.specs.text.FormSteps.{or_bad, bad_unless}
use Rattle.cfg_ast.specs.text.Steps.{◌>>=◌}
use Rattle.cfg_ast.specs.text.Stanzas.{refusal_of, said_at, once}
use Rattle.cfg_ast.specs.text.Reading.{Stanza, closed, ignored, in_interface, in_bgp, in_ospf, in_entry, Draft, State}
use Rattle.cfg_ast.specs.printing.Bare.{bare_named, bare_address, bare_interface, bare_base, bare_net, bare_bgp, bare_area, bare_ospf, bare_prefix_entry, bare_prefix_list, bare_community_line, bare_community_list, bare_name_line, bare_prepend, bare_map_entry, bare_route_map, bare_router}

-- ---- items

abbrev pub bare_item : RouterItem → RouterItem
bare_item (item.IpAddress address) = item.IpAddress (bare_address address)
bare_item (item.Base base) = item.Base (bare_base base)
bare_item (item.Network net) = item.Network (bare_net net)
bare_item (item.PeerList addr list inward) = item.PeerList addr (bare_named list) inward
bare_item (item.PeerMap addr map inward) = item.PeerMap addr (bare_named map) inward
bare_item (item.Area area) = item.Area (bare_area area)
bare_item said = said

abbrev pub bare_policy : PolicyItem → PolicyItem
bare_policy (policy.PrefixEntry name e) = policy.PrefixEntry name (bare_prefix_entry e)
bare_policy (policy.CommunityLine name line) = policy.CommunityLine name (bare_community_line line)
bare_policy (policy.MapHead name e) = policy.MapHead name (bare_map_entry e)
bare_policy (policy.MatchPrefixes names) = policy.MatchPrefixes (bare_name_line names)
bare_policy (policy.MatchComms names exact) = policy.MatchComms (bare_name_line names) exact
bare_policy (policy.Delete list) = policy.Delete (bare_named list)
bare_policy (policy.Prepend prepend) = policy.Prepend (bare_prepend prepend)
bare_policy said = said

-- ---- the state

abbrev pub bare_stanza : Stanza → Stanza
bare_stanza closed = closed
bare_stanza ignored = ignored
bare_stanza (in_interface i) = in_interface (bare_interface i)
bare_stanza (in_bgp b) = in_bgp (bare_bgp b)
bare_stanza (in_ospf o) = in_ospf (bare_ospf o)
bare_stanza (in_entry name e) = in_entry name (bare_map_entry e)

abbrev pub bare_draft : Draft → Draft
bare_draft d = record {
  name = option_map bare_named d.name;
  interfaces = map bare_interface d.interfaces;
  bgp = option_map bare_bgp d.bgp;
  ospf = option_map bare_ospf d.ospf;
  prefix_lists = map bare_prefix_list d.prefix_lists;
  community_lists = map bare_community_list d.community_lists;
  route_maps = map bare_route_map d.route_maps;
  stanza = bare_stanza d.stanza;
}

abbrev pub bare_state : State → State
bare_state s = record { routers = map bare_router s.routers; draft = bare_draft s.draft }

-- ---- results

abbrev pub bare_refusal : ReadRefusal → ReadRefusal
bare_refusal (refusal.At n kind) = refusal.At 0 kind
bare_refusal refusal.Memory = refusal.Memory

-- what a form says, except for line numbers
abbrev pub on_ok : {A B : Type 0} → (A → B) → Result A FormFault → Result B FormFault
on_ok h (Ok x) = Ok (h x)
on_ok h (Err fault) = Err fault

-- what a step gives, except for line numbers
abbrev pub on_result : {A B : Type 0} → (A → B) → Result A ReadRefusal → Result B ReadRefusal
on_result h (Ok x) = Ok (h x)
on_result h (Err fault) = Err (bare_refusal fault)

-- ---- parts of forms

pub given_same : {A B C : Type 0} (h : B → C) (o : Option A) (f : A → Result C FormFault) (g : A → Result B FormFault) → ((x : A) → f x ≡ on_ok h (g x)) →
    (or_bad o >>= f) ≡ on_ok h (or_bad o >>= g)
given_same h (Some x) f g same = same x
given_same h None f g same = refl

pub mapped_same : {A B C : Type 0} (h : B → C) (o : Option A) (f : A → C) (g : A → B) → ((x : A) → f x ≡ h (g x)) →
    or_bad (option_map f o) ≡ on_ok h (or_bad (option_map g o))
mapped_same h (Some x) f g same = ap (λ y. Ok y) (same x)
mapped_same h None f g same = refl

pub after_same : {A B C : Type 0} (h : B → C) (r : Result A FormFault) (f : A → Result C FormFault) (g : A → Result B FormFault) →
    ((x : A) → f x ≡ on_ok h (g x)) → (r >>= f) ≡ on_ok h (r >>= g)
after_same h (Ok x) f g same = same x
after_same h (Err fault) f g same = refl

-- where the part itself has a number
pub after_bare : {A B C D : Type 0} (h : B → C) (k : A → D) (q : Result D FormFault) (r : Result A FormFault) (f : D → Result C FormFault)
    (g : A → Result B FormFault) → q ≡ on_ok k r → ((x : A) → f (k x) ≡ on_ok h (g x)) → (q >>= f) ≡ on_ok h (r >>= g)
after_bare h k q (Ok x) f g first same = ap (λ (p : Result _ FormFault). p >>= f) first ∙ same x
after_bare h k q (Err fault) f g first same = ap (λ (p : Result _ FormFault). p >>= f) first

pub fits_same : {B C : Type 0} (h : B → C) (b : Bool) (q : Result C FormFault) (r : Result B FormFault) → q ≡ on_ok h r →
    bad_unless b q ≡ on_ok h (bad_unless b r)
fits_same h true q r same = same
fits_same h false q r same = refl

pub either_same : {B C : Type 0} (h : B → C) (b : Bool) (q s : Result C FormFault) (r t : Result B FormFault) → q ≡ on_ok h r → s ≡ on_ok h t →
    (if b then q else s) ≡ on_ok h (if b then r else t)
either_same h true q s r t first second = first
either_same h false q s r t first second = second

-- ---- parts of steps

pub then_same : {A B C D : Type 0} (k : A → D) (h : B → C) (q : Result D ReadRefusal) (r : Result A ReadRefusal) (f : D → Result C ReadRefusal)
    (g : A → Result B ReadRefusal) → q ≡ on_result k r → ((x : A) → f (k x) ≡ on_result h (g x)) → (q >>= f) ≡ on_result h (r >>= g)
then_same k h q (Ok x) f g first same = ap (λ (p : Result _ ReadRefusal). p >>= f) first ∙ same x
then_same k h q (Err fault) f g first same = ap (λ (p : Result _ ReadRefusal). p >>= f) first

bare_fault : {B C : Type 0} (h : B → C) (n : ℕ) (fault : FormFault) →
    ◌≡◌ {A = Result C ReadRefusal} (Err (refusal_of 0 fault)) (on_result h (Err (refusal_of n fault)))
bare_fault h n form_fault.UnknownLine = refl
bare_fault h n form_fault.Unsupported = refl
bare_fault h n form_fault.BadForm = refl
bare_fault h n form_fault.WellKnown = refl
bare_fault h n form_fault.Memory = refl

pub said_same : {A B C D : Type 0} (k : A → D) (h : B → C) (n : ℕ) (q : Result D FormFault) (r : Result A FormFault) (f : D → Result C ReadRefusal)
    (g : A → Result B ReadRefusal) → q ≡ on_ok k r → ((x : A) → f (k x) ≡ on_result h (g x)) → (said_at 0 q >>= f) ≡ on_result h (said_at n r >>= g)
said_same k h n q (Ok x) f g first same = ap (λ (p : Result _ FormFault). said_at 0 p >>= f) first ∙ same x
said_same k h n q (Err fault) f g first same = ap (λ (p : Result _ FormFault). said_at 0 p >>= f) first ∙ bare_fault h n fault

pub once_same : {B C : Type 0} (h : B → C) (n : ℕ) (b c : Bool) (x : B) (y : C) → c ≡ b → y ≡ h x → once 0 c y ≡ on_result h (once n b x)
once_same h n true c x y test same = ap (λ (d : Bool). once 0 d y) test
once_same h n false c x y test same = ap (λ (d : Bool). once 0 d y) test ∙ ap (λ v. Ok v) same

pub is_some-map : {A B : Type 0} (h : A → B) (o : Option A) → is_some (option_map h o) ≡ is_some o
is_some-map h None = refl
is_some-map h (Some x) = refl

pub any-map : {A B : Type 0} (h : A → B) (f : B → Bool) (g : A → Bool) → ((x : A) → f (h x) ≡ g x) → (xs : List A) → list_any f (map h xs) ≡ list_any g xs
any-map h f g same [] = refl
any-map h f g same (x ∷ xs) = rw (same x, any-map h f g same xs) refl
