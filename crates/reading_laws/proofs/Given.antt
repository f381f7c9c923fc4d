-- What the state of the reader has, by the lines before.
use Rattle.std.proofs.Common.{◌≡◌, ℕ, Bool, true, false, ◌&&◌, ◌||◌, List, [], ◌∷◌, Option, Some, None, Result, Ok, Err, refl, sym, ap, ◌∙◌, is_some, ◌==◌, if◌then◌else◌, eq-eqb, ◌⊎◌}
use Rattle.std.specs.Str.{bytes_eq}
use Rattle.std.proofs.lemmas.Map.Views.{exact_unsigned_eq}
use Rattle.std.proofs.lemmas.Slice.Eq.{bytes_eq-Decides}
use Rattle.cfg_ast.specs.declared.interface.Interface.{Interface}
use Rattle.cfg_ast.specs.declared.bgp.BgpProcess.{BgpProcess}
use Rattle.cfg_ast.specs.declared.bgp.Neighbor.{Neighbor}
use Rattle.cfg_ast.specs.declared.policy.MapEntry.{MapEntry}
use Rattle.cfg_ast.specs.declared.refusal.FormFault.{FormFault}
use Rattle.cfg_ast.specs.declared.refusal.ReadRefusal.{ReadRefusal}
use Rattle.cfg_ast.specs.text.TextLines.{TextLine}
use Rattle.cfg_ast.specs.text.PolicyLines.{has_prefix_entry, has_map_entry}
use Rattle.cfg_ast.specs.text.Stanzas.{has_network, has_neighbor}
use Rattle.cfg_ast.specs.text.Reading.{Stanza, closed, ignored, in_interface, in_bgp, in_ospf, in_entry, Draft, State, has_interface, with_closed, step}
use Rattle.reading_laws.specs.FormFaults.{Thing, host_name, interface, bgp, ospf, prefix_entry, map_entry, StanzaPart, address, cost, network, preference, remote_as, list_in, list_out, map_in, map_out, match_prefixes, match_communities, set_preference, set_communities, set_comm_list, set_prepend, What, whole, part, same_thing, same_what, Open, nothing, unread, within, Saying, top_says, inner_says, is_top, opens_of, open_of, says, is_given, saying_fault, fault_of}

-- ---- things that are the same

and_true : (a b : Bool) → (a && b) ≡ true → (a ≡ true) × (b ≡ true)
and_true true b e = (refl, e)
and_true false b e = absurd cc

bytes_same : (n : List ℕ) → bytes_eq n n ≡ true
bytes_same n = (bytes_eq-Decides n n).1 refl

same_names : (m n : List ℕ) (j k : ℕ) → (bytes_eq m n && (j == k)) ≡ true → (m ≡ n) × (j ≡ k)
same_names m n j k e =
    let both = and_true (bytes_eq m n) (j == k) e in
    ((bytes_eq-Decides m n).0 both.0, exact_unsigned_eq j k both.1)

pub same_self : (t : Thing) → same_thing t t ≡ true
same_self host_name = refl
same_self (interface n) = bytes_same n
same_self bgp = refl
same_self ospf = refl
same_self (prefix_entry n k) = rw (bytes_same n, eq-eqb k k refl) refl
same_self (map_entry n k) = rw (bytes_same n, eq-eqb k k refl) refl

same_is : (t u : Thing) → same_thing t u ≡ true → t ≡ u
same_is host_name host_name e = refl
same_is (interface m) (interface n) e = ap interface ((bytes_eq-Decides m n).0 e)
same_is bgp bgp e = refl
same_is ospf ospf e = refl
same_is (prefix_entry m j) (prefix_entry n k) e = let s = same_names m n j k e in rw (s.0, s.1) refl
same_is (map_entry m j) (map_entry n k) e = let s = same_names m n j k e in rw (s.0, s.1) refl
same_is _ _ e = absurd cc

-- ---- what is given, one line on

-- what a line gives is what is asked for
abbrev pub hits : Option What → What → Bool
hits None w = false
hits (Some v) w = same_what v w

pub given_next : (past : List TextLine) (l : TextLine) (s : Saying) (o : Option What) (w : What) → says past l ≡ Ok s → s.gives ≡ o → s.ends ≡ false →
    is_given (l ∷ past) w ≡ (hits o w || is_given past w)
unfolding is_given
given_next past l s None w said gives goes_on = rw (said, goes_on, gives) refl
given_next past l s (Some v) w said gives goes_on = rw (said, goes_on, gives) refl

pub given_none : (past : List TextLine) (l : TextLine) (s : Saying) (w : What) → says past l ≡ Ok s → s.ends ≡ true → is_given (l ∷ past) w ≡ false
unfolding is_given
given_none past l s w said ends = rw (said, ends) refl

-- ---- what the state has

abbrev pub has_thing : Draft → Thing → Bool
has_thing d host_name = is_some d.name
has_thing d (interface name) = has_interface d.interfaces name
has_thing d bgp = is_some d.bgp
has_thing d ospf = is_some d.ospf
has_thing d (prefix_entry name seq) = has_prefix_entry d.prefix_lists name seq
has_thing d (map_entry name seq) = has_map_entry d.route_maps name seq

abbrev pub interface_has : Interface → StanzaPart → Bool
interface_has i address = is_some i.address
interface_has i cost = is_some i.cost
interface_has i _ = false

-- the first neighbour of the address passes
abbrev pub peer_has : (Neighbor → Bool) → List Neighbor → ℕ → Bool
peer_has test [] addr = false
peer_has test (p ∷ peers) addr = if p.addr == addr then test p else peer_has test peers addr

abbrev pub has_list_in : Neighbor → Bool
has_list_in p = is_some p.list_in

abbrev pub has_list_out : Neighbor → Bool
has_list_out p = is_some p.list_out

abbrev pub has_map_in : Neighbor → Bool
has_map_in p = is_some p.map_in

abbrev pub has_map_out : Neighbor → Bool
has_map_out p = is_some p.map_out

abbrev pub bgp_has : BgpProcess → StanzaPart → Bool
bgp_has b (network prefix) = has_network b.networks prefix
bgp_has b preference = is_some b.base
bgp_has b (remote_as addr) = has_neighbor b.neighbors addr
bgp_has b (list_in addr) = peer_has has_list_in b.neighbors addr
bgp_has b (list_out addr) = peer_has has_list_out b.neighbors addr
bgp_has b (map_in addr) = peer_has has_map_in b.neighbors addr
bgp_has b (map_out addr) = peer_has has_map_out b.neighbors addr
bgp_has b _ = false

abbrev pub entry_has : MapEntry → StanzaPart → Bool
entry_has e match_prefixes = is_some e.prefixes
entry_has e match_communities = is_some e.comms
entry_has e set_preference = is_some e.lp
entry_has e set_communities = is_some e.change
entry_has e set_comm_list = is_some e.delete
entry_has e set_prepend = is_some e.prepend
entry_has e _ = false

abbrev pub has_part : Stanza → StanzaPart → Bool
has_part closed p = false
has_part ignored p = false
has_part (in_interface i) p = interface_has i p
has_part (in_bgp b) p = bgp_has b p
has_part (in_ospf o) p = false
has_part (in_entry name e) p = entry_has e p

-- ---- the state agrees with the lines before

-- the stanza is that of the thing
abbrev pub IsOf : Stanza → Thing → Type 0
IsOf (in_interface i) (interface name) = i.name ≡ name
IsOf (in_bgp b) bgp = Unit {0}
IsOf (in_ospf o) ospf = Unit {0}
IsOf (in_entry map e) (map_entry name seq) = (map ≡ name) × (e.seq ≡ seq)
IsOf _ _ = ⊥

abbrev pub SameOpen : List TextLine → Stanza → Open → Type 0
SameOpen past st nothing = st ≡ closed
SameOpen past st unread = st ≡ ignored
SameOpen past st (within t) = IsOf st t × (is_given past (whole t) ≡ true) × ((p : StanzaPart) → has_part st p ≡ is_given past (part t p))

pub record Agrees (past : List TextLine) (s : State) : Type 0 where
  pub things : (t : Thing) → has_thing (with_closed s.draft) t ≡ is_given past (whole t)
  pub open_is : SameOpen past s.draft.stanza (open_of past)
  pub fresh : (t : Thing) (p : StanzaPart) → is_given past (whole t) ≡ false → is_given past (part t p) ≡ false

abbrev pub Stops : List TextLine → TextLine → State → Type 0
Stops past l s = (e : ReadRefusal) × (step s l ≡ Err e) × (fault_of past l ≡ Some e)

abbrev pub Goes : List TextLine → TextLine → State → Type 0
Goes past l s = (t : State) × (step s l ≡ Ok t) × (fault_of past l ≡ None) × Agrees (l ∷ past) t

abbrev pub Outcome : List TextLine → TextLine → State → Type 0
Outcome past l s = Stops past l s ⊎ Goes past l s

-- a part stands in the stanza of a thing that is given
abbrev pub Owned : List TextLine → Option What → Type 0
Owned past None = Unit {0}
Owned past (Some (whole t)) = Unit {0}
Owned past (Some (part t p)) = is_given past (whole t) ≡ true

or_false : (a b : Bool) → (a || b) ≡ false → (a ≡ false) × (b ≡ false)
or_false true b e = absurd cc
or_false false b e = (refl, e)

-- a part of a thing that is not given is no part of one that is
other_part : (past : List TextLine) (t u : Thing) (b : Bool) → is_given past (whole t) ≡ true → is_given past (whole u) ≡ false → same_thing t u ≡ b → b ≡ false
other_part past t u false is not same = refl
other_part past t u true is not same = let f : true ≡ false = sym is ∙ ap (λ (v : Thing). is_given past (whole v)) (same_is t u same) ∙ not in absurd cc

fresh_next : (past : List TextLine) (o : Option What) → Owned past o →
    ((t : Thing) (p : StanzaPart) → is_given past (whole t) ≡ false → is_given past (part t p) ≡ false)
    → (t : Thing) (p : StanzaPart) → (hits o (whole t) || is_given past (whole t)) ≡ false → (hits o (part t p) || is_given past (part t p)) ≡ false
fresh_next past None owned fresh t p not = fresh t p not
fresh_next past (Some (whole v)) owned fresh t p not = fresh t p (or_false (same_thing v t) (is_given past (whole t)) not).1
fresh_next past (Some (part v q)) owned fresh t p not = rw (other_part past v t (same_thing v t) owned not refl, fresh t p not) refl

-- the state after a line that ends no router
pub agrees_next : (past : List TextLine) (l : TextLine) (s t : State) (sy : Saying) (o : Option What) → Agrees past s → says past l ≡ Ok sy → sy.gives ≡ o →
    sy.ends ≡ false → Owned past o
    → ((u : Thing) → has_thing (with_closed t.draft) u ≡ (hits o (whole u) || has_thing (with_closed s.draft) u))
    → SameOpen (l ∷ past) t.draft.stanza (open_of (l ∷ past)) → Agrees (l ∷ past) t
agrees_next past l s t sy o ag said gives goes_on owned has opened =
    let next : (w : What) → is_given (l ∷ past) w ≡ (hits o w || is_given past w) = λ w. given_next past l sy o w said gives goes_on in
    record {
      things = λ u. rw (has u, ag.things u, next (whole u)) refl;
      open_is = opened;
      fresh = λ u p. rw (next (whole u), next (part u p)) (fresh_next past o owned ag.fresh u p);
    }

-- ---- what lines say

pub says_top : (past : List TextLine) (l : TextLine) (r : Result Saying FormFault) → is_top l ≡ true → top_says l ≡ r → says past l ≡ r
unfolding says
says_top past l r top told = rw (top, told) refl

pub open_top : (past : List TextLine) (l : TextLine) (r : Result Saying FormFault) → is_top l ≡ true → top_says l ≡ r → open_of (l ∷ past) ≡ opens_of r
open_top past l r top told = rw (top, told) refl

pub fault_top : (past : List TextLine) (l : TextLine) (r : Result Saying FormFault) → is_top l ≡ true → top_says l ≡ r →
    fault_of past l ≡ saying_fault past l.number r
unfolding fault_of
fault_top past l r top told = rw (says_top past l r top told, top) refl

pub says_within : (past : List TextLine) (l : TextLine) (o : Open) (r : Result Saying FormFault) → is_top l ≡ false → open_of past ≡ o → inner_says l o ≡ r →
    says past l ≡ r
unfolding says
says_within past l o r top opened told = rw (top, opened, told) refl

pub open_inner : (past : List TextLine) (l : TextLine) → is_top l ≡ false → open_of (l ∷ past) ≡ open_of past
open_inner past l top = rw top refl

pub fault_within : (past : List TextLine) (l : TextLine) (t : Thing) (r : Result Saying FormFault) → is_top l ≡ false → open_of past ≡ within t →
    inner_says l (within t) ≡ r → fault_of past l ≡ saying_fault past l.number r
unfolding fault_of
fault_within past l t r top opened told = rw (says_within past l (within t) r top opened told, top, opened) refl
