-- A line of a stanza, in the state that agrees with the lines before.
use Rattle.std.proofs.Common.{◌≡◌, ℕ, Bool, true, false, ◌&&◌, ◌||◌, List, ◌∷◌, Option, Some, None, Result, Ok, Err, refl, sym, ap, ◌∙◌, is_some, ◌==◌, inl, inr}
use Rattle.std.specs.Str.{bytes_eq}
use Rattle.cfg_ast.specs.meaning.Addresses.{Address}
use Rattle.cfg_ast.specs.declared.network.Named.{Named}
use Rattle.cfg_ast.specs.declared.interface.Interface.{Interface}
use Rattle.cfg_ast.specs.declared.ospf.OspfProcess.{OspfProcess}
use Rattle.cfg_ast.specs.declared.policy.Change.{Change}
use Rattle.cfg_ast.specs.declared.policy.MapEntry.{MapEntry}
use Rattle.cfg_ast.specs.declared.policy.NameLine.{NameLine}
use Rattle.cfg_ast.specs.declared.policy.Prepend.{Prepend}
use Rattle.cfg_ast.specs.declared.items.Scope.TheVariants as scope
use Rattle.cfg_ast.specs.declared.items.RouterItem.{RouterItem}
use Rattle.cfg_ast.specs.declared.items.RouterItem.TheVariants as item
use Rattle.cfg_ast.specs.declared.items.PolicyScope.TheVariants as policy_scope
use Rattle.cfg_ast.specs.declared.items.PolicyItem.{PolicyItem}
use Rattle.cfg_ast.specs.declared.items.PolicyItem.TheVariants as policy
use Rattle.cfg_ast.specs.declared.refusal.FormFault.{FormFault}
use Rattle.cfg_ast.specs.declared.refusal.Kind.TheVariants as kind
use Rattle.cfg_ast.specs.declared.refusal.ReadRefusal.TheVariants as refusal
use Rattle.cfg_ast.specs.text.TextLines.{TextLine}
use Rattle.cfg_ast.specs.text.RouterForms.{router_item_of}
use Rattle.cfg_ast.specs.text.PolicyForms.{policy_item_of}
use Rattle.cfg_ast.specs.text.PolicyLines.{set_entry, has_map_entry}
use Rattle.cfg_ast.specs.text.Stanzas.{once, said_at, refusal_of, set_interface, set_ospf}
use Rattle.cfg_ast.specs.text.Steps.{◌>>=◌}
use Rattle.cfg_ast.specs.text.Reading.{Stanza, in_interface, in_ospf, in_entry, State, has_interface, with_closed, take_inner, step}
use Rattle.reading_laws.specs.FormFaults.{Thing, host_name, interface, ospf, map_entry, StanzaPart, address, cost, match_prefixes, match_communities, set_preference, set_communities, set_comm_list, set_prepend, What, whole, part, same_part, within, Saying, silent, giving, interface_saying, ospf_saying, entry_saying, means, inner_says, is_top, open_of, says, is_given, fault_of}
use Rattle.reading_laws.proofs.Given.{same_self, hits, given_next, has_thing, has_part, interface_has, entry_has, IsOf, Agrees, Outcome, Owned, agrees_next, says_within, open_inner, fault_within}
use Rattle.reading_laws.proofs.AddedItems.{has_push, map_put}

-- ---- what comes of a line of a stanza

abbrev pub with_stanza : State → Stanza → State
with_stanza s st = record { routers = s.routers; draft = record s.draft { stanza = st } }

pub inner_step : (s : State) (l : TextLine) (st : Stanza) → is_top l ≡ false → s.draft.stanza ≡ st →
    step s l ≡ (take_inner l st >>= (λ (u : Stanza). Ok (with_stanza s u)))
unfolding step
inner_step s l st top here = rw (top, here) refl

-- a line of the stanza of a thing, where the state has that stanza
pub record Within (past : List TextLine) (l : TextLine) (s : State) (t : Thing) (st : Stanza) : Type 0 where
  pub agrees : Agrees past s
  pub inner : is_top l ≡ false
  pub opened : open_of past ≡ within t
  pub stands : s.draft.stanza ≡ st
  pub stood : is_given past (whole t) ≡ true
  pub parts : (p : StanzaPart) → has_part st p ≡ is_given past (part t p)

-- the stanza goes on as another one of the same thing
abbrev pub SameThing : State → Thing → Stanza → Type 0
SameThing s t st = IsOf st t × ((u : Thing) → has_thing (with_closed (record s.draft { stanza = st })) u ≡ has_thing (with_closed s.draft) u)

-- what a line of the stanza of this thing gives
abbrev pub of : Thing → Option StanzaPart → Option What
of t None = None
of t (Some p) = Some (part t p)

abbrev pub adds_part : Option StanzaPart → StanzaPart → Bool
adds_part None p = false
adds_part (Some q) p = same_part q p

no_thing : (t u : Thing) (o : Option StanzaPart) → hits (of t o) (whole u) ≡ false
no_thing t u None = refl
no_thing t u (Some p) = refl

its_part : (t : Thing) (o : Option StanzaPart) (p : StanzaPart) → hits (of t o) (part t p) ≡ adds_part o p
its_part t None p = refl
its_part t (Some q) p = rw (same_self t) refl

owned : (past : List TextLine) (t : Thing) (o : Option StanzaPart) → is_given past (whole t) ≡ true → Owned past (of t o)
owned past t None stood = tt
owned past t (Some p) stood = stood

pub goes_on : (past : List TextLine) (l : TextLine) (s : State) (t : Thing) (st next : Stanza) (o : Option StanzaPart) (sy : Saying) → Within past l s t st →
    inner_says l (within t) ≡ Ok sy → sy.gives ≡ of t o → sy.ends ≡ false → fault_of past l ≡ None
    → take_inner l st ≡ Ok next → SameThing s t next → ((p : StanzaPart) → has_part next p ≡ (adds_part o p || has_part st p)) → Outcome past l s
goes_on past l s t st next o sy w told gives on fault takes same adds =
    let said : says past l ≡ Ok sy = says_within past l (within t) (Ok sy) w.inner w.opened told in
    let more : (v : What) → is_given (l ∷ past) v ≡ (hits (of t o) v || is_given past v) = λ v. given_next past l sy (of t o) v said gives on in
    inr (
      with_stanza s next,
      inner_step s l st w.inner w.stands ∙ rw takes refl,
      fault,
      agrees_next past l s (with_stanza s next) sy (of t o) w.agrees said gives on (owned past t o w.stood) (λ u. rw (no_thing t u o) (same.1 u))
          (rw (open_inner past l w.inner, w.opened)
          (same.0, rw (more (whole t), no_thing t t o, w.stood) refl, λ p. rw (adds p, more (part t p), its_part t o p, w.parts p) refl)),
    )

-- a line that may stand once
pub gives_part : {X : Type 0} (past : List TextLine) (l : TextLine) (s : State) (t : Thing) (st : Stanza) (q : StanzaPart) (make : X → Stanza) (x : X) →
    Within past l s t st → inner_says l (within t) ≡ Ok (giving (part t q))
    → take_inner l st ≡ (once l.number (has_part st q) x >>= (λ (y : X). Ok (make y))) → SameThing s t (make x) →
    ((p : StanzaPart) → has_part (make x) p ≡ (same_part q p || has_part st p))
    → (b : Bool) → has_part st q ≡ b → Outcome past l s
gives_part past l s t st q make x w told takes same adds true has =
    let was : is_given past (part t q) ≡ true = sym (w.parts q) ∙ has in
    inl (
      refusal.At l.number kind.Repeated,
      inner_step s l st w.inner w.stands
          ∙ rw (takes, has) refl,
      fault_within past l t (Ok (giving (part t q))) w.inner w.opened told ∙ rw was refl,
    )
gives_part past l s t st q make x w told takes same adds false has =
    let was : is_given past (part t q) ≡ false = sym (w.parts q) ∙ has in
    goes_on past l s t st (make x) (Some q) (giving (part t q)) w told refl refl (fault_within past l t (Ok (giving (part t q))) w.inner w.opened told
    ∙ rw was refl) (takes ∙ rw has refl) same adds

-- a line that may stand again
pub gives_none : (past : List TextLine) (l : TextLine) (s : State) (t : Thing) (st next : Stanza) → Within past l s t st → inner_says l (within t) ≡ Ok silent →
    take_inner l st ≡ Ok next → SameThing s t next
    → ((p : StanzaPart) → has_part next p ≡ has_part st p) → Outcome past l s
gives_none past l s t st next w told takes same adds =
    goes_on past l s t st next None silent w told refl refl (fault_within past l t (Ok silent) w.inner w.opened told) takes same adds

pub stops : (past : List TextLine) (l : TextLine) (s : State) (t : Thing) (st : Stanza) (f : FormFault) → Within past l s t st →
    inner_says l (within t) ≡ Err f → take_inner l st ≡ Err (refusal_of l.number f) → Outcome past l s
stops past l s t st f w told takes = inl
    (refusal_of l.number f, inner_step s l st w.inner w.stands ∙ rw takes refl, fault_within past l t (Err f) w.inner w.opened told)

-- ---- an interface

same_interface : (s : State) (i j : Interface) (name : List ℕ) → s.draft.stanza ≡ in_interface i → i.name ≡ name → j.name ≡ i.name →
    SameThing s (interface name) (in_interface j)
unfolding with_closed
same_interface s i j name stands named same = (same ∙ named, λ u. kept u)
  where
    kept : (u : Thing) → has_thing (with_closed (record s.draft { stanza = in_interface j })) u ≡ has_thing (with_closed s.draft) u
    kept (interface n) = rw stands (has_push s.draft.interfaces j n ∙ ap (λ (m : List ℕ). bytes_eq m n || has_interface s.draft.interfaces n) same
        ∙ sym (has_push s.draft.interfaces i n))
    kept _ = rw stands refl

interface_takes : (l : TextLine) (i : Interface) (r : Result RouterItem FormFault) → router_item_of scope.Interface l.number l.words ≡ r →
    take_inner l (in_interface i) ≡ (said_at l.number r >>= (λ (said : RouterItem). set_interface l.number said i >>= (λ (j : Interface). Ok (in_interface j))))
unfolding take_inner
interface_takes l i r read = rw read refl

interface_says : (l : TextLine) (name : List ℕ) (r : Result RouterItem FormFault) → router_item_of scope.Interface l.number l.words ≡ r →
    inner_says l (within (interface name)) ≡ means (interface_saying (interface name)) r
interface_says l name r read = rw read refl

has_address : (i : Interface) (a : Address) (p : StanzaPart) → interface_has (record i { address = Some a }) p ≡ (same_part address p || interface_has i p)
has_address i a address = refl
has_address i a _ = refl

has_cost : (i : Interface) (c : ℕ) (p : StanzaPart) → interface_has (record i { cost = Some c }) p ≡ (same_part cost p || interface_has i p)
has_cost i c cost = refl
has_cost i c _ = refl

has_shut : (i : Interface) (p : StanzaPart) → interface_has (record i { shut = true }) p ≡ interface_has i p
has_shut i address = refl
has_shut i _ = refl

pub interface_case : (past : List TextLine) (l : TextLine) (s : State) (i : Interface) (name : List ℕ) → Within past l s (interface name) (in_interface i) →
    i.name ≡ name → (r : Result RouterItem FormFault) → router_item_of scope.Interface l.number l.words ≡ r → Outcome past l s
unfolding set_interface
interface_case past l s i name w named (Err f) read =
    stops past l s (interface name) (in_interface i) f w (interface_says l name _ read) (interface_takes l i _ read)
interface_case past l s i name w named (Ok (item.IpAddress a)) read =
    gives_part past l s (interface name) (in_interface i) address in_interface (record i { address = Some a }) w (interface_says l name _ read)
    (interface_takes l i _ read) (same_interface s i (record i { address = Some a }) name w.stands named refl) (has_address i a) (is_some i.address) refl
interface_case past l s i name w named (Ok (item.Cost c)) read =
    gives_part past l s (interface name) (in_interface i) cost in_interface (record i { cost = Some c }) w (interface_says l name _ read)
    (interface_takes l i _ read) (same_interface s i (record i { cost = Some c }) name w.stands named refl) (has_cost i c) (is_some i.cost) refl
interface_case past l s i name w named (Ok item.Shutdown) read =
    gives_none past l s (interface name) (in_interface i) (in_interface (record i { shut = true })) w (interface_says l name _ read)
    (interface_takes l i _ read) (same_interface s i (record i { shut = true }) name w.stands named refl) (has_shut i)
interface_case past l s i name w named (Ok _) read =
    gives_none past l s (interface name) (in_interface i) (in_interface i) w (interface_says l name _ read) (interface_takes l i _ read)
    (same_interface s i i name w.stands named refl) (λ p. refl)

-- ---- an OSPF process

same_ospf : (s : State) (o p : OspfProcess) → s.draft.stanza ≡ in_ospf o → SameThing s ospf (in_ospf p)
unfolding with_closed
same_ospf s o p stands = (tt, λ u. kept u)
  where
    kept : (u : Thing) → has_thing (with_closed (record s.draft { stanza = in_ospf p })) u ≡ has_thing (with_closed s.draft) u
    kept host_name = rw stands refl
    kept _ = rw stands refl

ospf_takes : (l : TextLine) (o : OspfProcess) (r : Result RouterItem FormFault) → router_item_of scope.Ospf l.number l.words ≡ r →
    take_inner l (in_ospf o) ≡ (said_at l.number r >>= (λ (said : RouterItem). Ok (in_ospf (set_ospf said o))))
unfolding take_inner
ospf_takes l o r read = rw read refl

ospf_says : (l : TextLine) (r : Result RouterItem FormFault) → router_item_of scope.Ospf l.number l.words ≡ r → inner_says l (within ospf) ≡ means ospf_saying r
ospf_says l r read = rw read refl

pub ospf_case : (past : List TextLine) (l : TextLine) (s : State) (o : OspfProcess) → Within past l s ospf (in_ospf o) → (r : Result RouterItem FormFault) →
    router_item_of scope.Ospf l.number l.words ≡ r → Outcome past l s
ospf_case past l s o w (Err f) read = stops past l s ospf (in_ospf o) f w (ospf_says l _ read) (ospf_takes l o _ read)
ospf_case past l s o w (Ok said) read = gives_none past l s ospf (in_ospf o) (in_ospf (set_ospf said o)) w (ospf_says l _ read) (ospf_takes l o _ read)
    (same_ospf s o (set_ospf said o) w.stands) (λ p. refl)

-- ---- an entry of a route map

same_entry : (s : State) (map : List ℕ) (e f : MapEntry) (name : List ℕ) (seq : ℕ) → s.draft.stanza ≡ in_entry map e → map ≡ name → e.seq ≡ seq →
    f.seq ≡ e.seq → SameThing s (map_entry name seq) (in_entry map f)
unfolding with_closed
same_entry s map e f name seq stands named numbered same = ((named, same ∙ numbered), λ u. kept u)
  where
    kept : (u : Thing) → has_thing (with_closed (record s.draft { stanza = in_entry map f })) u ≡ has_thing (with_closed s.draft) u
    kept (map_entry n k) = rw stands (map_put map f s.draft.route_maps n k
        ∙ ap (λ (j : ℕ). (bytes_eq map n && (j == k)) || has_map_entry s.draft.route_maps n k) same ∙ sym (map_put map e s.draft.route_maps n k))
    kept _ = rw stands refl

entry_takes : (l : TextLine) (map : List ℕ) (e : MapEntry) (r : Result PolicyItem FormFault) → policy_item_of policy_scope.Entry l.number l.words ≡ r
    → take_inner l (in_entry map e) ≡ (said_at l.number r >>= (λ (said : PolicyItem). set_entry l.number said e >>= (λ (f : MapEntry). Ok (in_entry map f))))
unfolding take_inner
entry_takes l map e r read = rw read refl

entry_says : (l : TextLine) (name : List ℕ) (seq : ℕ) (r : Result PolicyItem FormFault) → policy_item_of policy_scope.Entry l.number l.words ≡ r →
    inner_says l (within (map_entry name seq)) ≡ means (entry_saying (map_entry name seq)) r
entry_says l name seq r read = rw read refl

has_prefixes : (e : MapEntry) (x : NameLine) (p : StanzaPart) → entry_has (record e { prefixes = Some x }) p ≡ (same_part match_prefixes p || entry_has e p)
has_prefixes e x match_prefixes = refl
has_prefixes e x _ = refl

has_comms : (e : MapEntry) (x : NameLine) (b : Bool) (p : StanzaPart) →
    entry_has (record e { comms = Some x; exact = b }) p ≡ (same_part match_communities p || entry_has e p)
has_comms e x b match_communities = refl
has_comms e x b _ = refl

has_lp : (e : MapEntry) (x : ℕ) (p : StanzaPart) → entry_has (record e { lp = Some x }) p ≡ (same_part set_preference p || entry_has e p)
has_lp e x set_preference = refl
has_lp e x _ = refl

has_change : (e : MapEntry) (x : Change) (n : ℕ) (p : StanzaPart) →
    entry_has (record e { change = Some x; change_line = n }) p ≡ (same_part set_communities p || entry_has e p)
has_change e x n set_communities = refl
has_change e x n _ = refl

has_delete : (e : MapEntry) (x : Named) (p : StanzaPart) → entry_has (record e { delete = Some x }) p ≡ (same_part set_comm_list p || entry_has e p)
has_delete e x set_comm_list = refl
has_delete e x _ = refl

has_prepend : (e : MapEntry) (x : Prepend) (p : StanzaPart) → entry_has (record e { prepend = Some x }) p ≡ (same_part set_prepend p || entry_has e p)
has_prepend e x set_prepend = refl
has_prepend e x _ = refl

-- an entry with the line's part
entry_part : (past : List TextLine) (l : TextLine) (s : State) (map : List ℕ) (e f : MapEntry) (name : List ℕ) (seq : ℕ) (q : StanzaPart) →
    Within past l s (map_entry name seq) (in_entry map e) → map ≡ name → e.seq ≡ seq →
    inner_says l (within (map_entry name seq)) ≡ Ok (giving (part (map_entry name seq) q))
    → take_inner l (in_entry map e) ≡ (once l.number (entry_has e q) f >>= (λ (g : MapEntry). Ok (in_entry map g))) → f.seq ≡ e.seq →
    ((p : StanzaPart) → entry_has f p ≡ (same_part q p || entry_has e p)) → Outcome past l s
entry_part past l s map e f name seq q w named numbered told takes same adds =
    gives_part past l s (map_entry name seq) (in_entry map e) q (in_entry map) f w told takes (same_entry s map e f name seq w.stands named numbered same) adds
    (entry_has e q) refl

pub entry_case : (past : List TextLine) (l : TextLine) (s : State) (map : List ℕ) (e : MapEntry) (name : List ℕ) (seq : ℕ) →
    Within past l s (map_entry name seq) (in_entry map e) → map ≡ name → e.seq ≡ seq → (r : Result PolicyItem FormFault) →
    policy_item_of policy_scope.Entry l.number l.words ≡ r → Outcome past l s
unfolding set_entry
entry_case past l s map e name seq w named numbered (Err f) read =
    stops past l s (map_entry name seq) (in_entry map e) f w (entry_says l name seq _ read) (entry_takes l map e _ read)
entry_case past l s map e name seq w named numbered (Ok (policy.MatchPrefixes x)) read =
    entry_part past l s map e (record e { prefixes = Some x }) name seq match_prefixes w named numbered (entry_says l name seq _ read)
    (entry_takes l map e _ read) refl (has_prefixes e x)
entry_case past l s map e name seq w named numbered (Ok (policy.MatchComms x exact)) read =
    entry_part past l s map e (record e { comms = Some x; exact = exact }) name seq match_communities w named numbered (entry_says l name seq _ read)
    (entry_takes l map e _ read) refl (has_comms e x exact)
entry_case past l s map e name seq w named numbered (Ok (policy.Lp x)) read =
    entry_part past l s map e (record e { lp = Some x }) name seq set_preference w named numbered (entry_says l name seq _ read) (entry_takes l map e _ read)
    refl (has_lp e x)
entry_case past l s map e name seq w named numbered (Ok (policy.Comms x)) read =
    entry_part past l s map e (record e { change = Some x; change_line = l.number }) name seq set_communities w named numbered (entry_says l name seq _ read)
    (entry_takes l map e _ read) refl (has_change e x l.number)
entry_case past l s map e name seq w named numbered (Ok (policy.Delete x)) read =
    entry_part past l s map e (record e { delete = Some x }) name seq set_comm_list w named numbered (entry_says l name seq _ read) (entry_takes l map e _ read)
    refl (has_delete e x)
entry_case past l s map e name seq w named numbered (Ok (policy.Prepend x)) read =
    entry_part past l s map e (record e { prepend = Some x }) name seq set_prepend w named numbered (entry_says l name seq _ read) (entry_takes l map e _ read)
    refl (has_prepend e x)
entry_case past l s map e name seq w named numbered (Ok _) read =
    gives_none past l s (map_entry name seq) (in_entry map e) (in_entry map e) w (entry_says l name seq _ read) (entry_takes l map e _ read)
    (same_entry s map e e name seq w.stands named numbered refl) (λ p. refl)
