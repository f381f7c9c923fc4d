-- Interfaces and neighbours stand in the order of their lines.
use Rattle.std.proofs.Common.{◌≡◌, ℕ, ◌+◌, ◌<◌, ◌≤◌, true, false, List, [], ◌∷◌, ◌++◌, map, length, Option, Some, None, refl, sym, ap, ◌∙◌, arith, ◌⊎◌, inl, inr, append_assoc}
use Rattle.std.specs.Prelude.{IfOk, is_some, ◌==◌}
use Rattle.std.specs.List.{AllByRecursion, flat_map}
use Rattle.std.proofs.lemmas.List.{append-nil, map_push}
use Rattle.std.proofs.lemmas.Grind.{flat_map-append}
use Rattle.base_kit.specs.Sets.{AllAbove, IsAscending}
use Rattle.cfg_ast.specs.declared.network.Named.{Named}
use Rattle.cfg_ast.specs.declared.network.Router.{Router}
use Rattle.cfg_ast.specs.declared.interface.Interface.{Interface}
use Rattle.cfg_ast.specs.declared.bgp.Neighbor.{Neighbor}
use Rattle.cfg_ast.specs.declared.bgp.BgpProcess.{BgpProcess}
use Rattle.cfg_ast.specs.declared.items.Scope.TheVariants as scope
use Rattle.cfg_ast.specs.declared.items.RouterItem.{RouterItem}
use Rattle.cfg_ast.specs.declared.items.RouterItem.TheVariants as item
use Rattle.cfg_ast.specs.declared.items.PolicyScope.TheVariants as policy_scope
use Rattle.cfg_ast.specs.declared.items.PolicyItem.{PolicyItem}
use Rattle.cfg_ast.specs.declared.items.PolicyItem.TheVariants as policy
use Rattle.cfg_ast.specs.text.TextLines.{TextLine}
use Rattle.cfg_ast.specs.text.PolicyLines.{is_policy_line, has_prefix_entry, has_map_entry, set_entry}
use Rattle.cfg_ast.specs.text.RouterForms.{router_item_of}
use Rattle.cfg_ast.specs.text.PolicyForms.{policy_item_of}
use Rattle.cfg_ast.specs.text.Stanzas.{set_interface, has_network, has_neighbor, new_neighbor, set_neighbor, at_neighbor, peer_of, set_process, set_bgp_for, set_bgp}
use Rattle.cfg_ast.specs.text.Reading.{Stanza, closed, ignored, in_interface, in_bgp, in_ospf, in_entry, Draft, State, no_draft, at_start, closing_stanza, with_closed, has_interface, take_line, named_router, ends_router, take_top, take_policy, step_policy, step_router, take_inner, step, steps}
use Rattle.given_laws.proofs.Given.{IsAny, any_result, either, then_step, then_said, stands_once}
use Rattle.given_laws.proofs.Each.{all_weaker, all_push}

-- ---- the lines of what stands so far

abbrev pub lines_of_interfaces : List Interface → List ℕ
lines_of_interfaces is = map (λ (i : Interface). i.line) is

abbrev pub lines_of_neighbors : List Neighbor → List ℕ
lines_of_neighbors ps = map (λ (p : Neighbor). p.line) ps

abbrev interface_of : Stanza → List ℕ
interface_of (in_interface i) = i.line ∷ []
interface_of _ = []

abbrev pub neighbors_in : Option BgpProcess → List ℕ
neighbors_in None = []
neighbors_in (Some b) = lines_of_neighbors b.neighbors

abbrev neighbors_open : Stanza → List ℕ
neighbors_open (in_bgp b) = lines_of_neighbors b.neighbors
neighbors_open _ = []

-- the lines of a draft: its interfaces, its neighbours, and that no process stands beside an open one
abbrev draft_interfaces : Draft → List ℕ
draft_interfaces d = lines_of_interfaces d.interfaces ++ interface_of d.stanza

abbrev draft_neighbors : Draft → List ℕ
draft_neighbors d = neighbors_in d.bgp ++ neighbors_open d.stanza

abbrev IsOnly : Option BgpProcess → Stanza → Type 0
IsOnly bgp (in_bgp b) = bgp ≡ None
IsOnly bgp _ = Unit {0}

-- one line more at the end, or none
abbrev pub Extends : ℕ → List ℕ → List ℕ → Type 0
Extends n before after = (after ≡ before) ⊎ (after ≡ before ++ n ∷ [])

abbrev Grows : ℕ → Draft → Draft → Type 0
Grows n d e = Extends n (draft_interfaces d) (draft_interfaces e) × Extends n (draft_neighbors d) (draft_neighbors e) × IsOnly e.bgp e.stanza

-- ---- a stanza is closed

closing_interfaces : (st : Stanza) (d : Draft) → d.stanza ≡ st → draft_interfaces (closing_stanza st d) ≡ draft_interfaces d
closing_interfaces closed d same = refl
closing_interfaces (in_interface i) d same = append-nil (lines_of_interfaces (d.interfaces ++ i ∷ [])) ∙ map_push (λ (j : Interface). j.line) d.interfaces i
    ∙ ap (λ (st : Stanza). lines_of_interfaces d.interfaces ++ interface_of st) (sym same)
closing_interfaces ignored d same = ap (λ (st : Stanza). lines_of_interfaces d.interfaces ++ interface_of st) (sym same)
closing_interfaces (in_bgp b) d same = ap (λ (st : Stanza). lines_of_interfaces d.interfaces ++ interface_of st) (sym same)
closing_interfaces (in_ospf o) d same = ap (λ (st : Stanza). lines_of_interfaces d.interfaces ++ interface_of st) (sym same)
closing_interfaces (in_entry name e) d same = ap (λ (st : Stanza). lines_of_interfaces d.interfaces ++ interface_of st) (sym same)

closing_neighbors : (st : Stanza) (d : Draft) → d.stanza ≡ st → IsOnly d.bgp st → draft_neighbors (closing_stanza st d) ≡ draft_neighbors d
closing_neighbors closed d same only = refl
closing_neighbors (in_bgp b) d same only = append-nil (lines_of_neighbors b.neighbors)
    ∙ ap (λ (o : Option BgpProcess). neighbors_in o ++ lines_of_neighbors b.neighbors) (sym only)
    ∙ ap (λ (st : Stanza). neighbors_in d.bgp ++ neighbors_open st) (sym same)
closing_neighbors ignored d same only = ap (λ (st : Stanza). neighbors_in d.bgp ++ neighbors_open st) (sym same)
closing_neighbors (in_interface i) d same only = ap (λ (st : Stanza). neighbors_in d.bgp ++ neighbors_open st) (sym same)
closing_neighbors (in_ospf o) d same only = ap (λ (st : Stanza). neighbors_in d.bgp ++ neighbors_open st) (sym same)
closing_neighbors (in_entry name e) d same only = ap (λ (st : Stanza). neighbors_in d.bgp ++ neighbors_open st) (sym same)

pub closing_closed : (st : Stanza) (d : Draft) → d.stanza ≡ st → (closing_stanza st d).stanza ≡ closed
closing_closed closed d same = same
closing_closed _ d same = refl

-- a draft whose stanza is closed, with the lines of another
record IsClosedOf (d c : Draft) : Type 0 where
  idle : c.stanza ≡ closed
  interfaces : draft_interfaces c ≡ draft_interfaces d
  neighbors : draft_neighbors c ≡ draft_neighbors d

closed_of : (d : Draft) → IsOnly d.bgp d.stanza → IsClosedOf d (with_closed d)
unfolding with_closed
closed_of d only = record {
  idle = closing_closed d.stanza d refl;
  interfaces = closing_interfaces d.stanza d refl;
  neighbors =
      closing_neighbors d.stanza d refl only;
}

idle_interfaces : (c : Draft) → c.stanza ≡ closed → draft_interfaces c ≡ lines_of_interfaces c.interfaces
idle_interfaces c idle = ap (λ (st : Stanza). lines_of_interfaces c.interfaces ++ interface_of st) idle ∙ append-nil (lines_of_interfaces c.interfaces)

idle_neighbors : (c : Draft) → c.stanza ≡ closed → draft_neighbors c ≡ neighbors_in c.bgp
idle_neighbors c idle = ap (λ (st : Stanza). neighbors_in c.bgp ++ neighbors_open st) idle ∙ append-nil (neighbors_in c.bgp)

idle_only : (c : Draft) → c.stanza ≡ closed → IsOnly c.bgp c.stanza
idle_only c idle = rw idle tt

-- the lines stay, where the interfaces and the process do
same_interfaces : (n : ℕ) (c : Draft) → c.stanza ≡ closed → Extends n (draft_interfaces c) (lines_of_interfaces c.interfaces ++ [])
same_interfaces n c idle = inl (append-nil (lines_of_interfaces c.interfaces) ∙ sym (idle_interfaces c idle))

same_neighbors : (n : ℕ) (c : Draft) → c.stanza ≡ closed → Extends n (draft_neighbors c) (neighbors_in c.bgp ++ [])
same_neighbors n c idle = inl (append-nil (neighbors_in c.bgp) ∙ sym (idle_neighbors c idle))

pub none_of : {X : Type 0} (o : Option X) → is_some o ≡ false → o ≡ None
none_of None e = refl
none_of (Some x) e = absurd cc

-- ---- top lines

line_grows : (n : ℕ) (said : RouterItem) (c : Draft) → c.stanza ≡ closed → IfOk (take_line n said c) (Grows n c)
unfolding take_line
line_grows n (item.Hostname name) c idle = stands_once (Grows n c) n (is_some c.name) _ (λ e. (inl refl, inl refl, idle_only c idle))
line_grows n (item.Interface name) c idle =
    stands_once (Grows n c) n (has_interface c.interfaces name) _
    (λ e. (inr (ap (λ (ns : List ℕ). ns ++ n ∷ []) (sym (idle_interfaces c idle))), same_neighbors n c idle, tt))
line_grows n (item.Bgp number) c idle = stands_once (Grows n c) n (is_some c.bgp) _ (λ e. (same_interfaces n c idle, same_neighbors n c idle, none_of c.bgp e))
line_grows n (item.Ospf number) c idle = stands_once (Grows n c) n (is_some c.ospf) _ (λ e. (same_interfaces n c idle, same_neighbors n c idle, tt))
line_grows n item.Ignored c idle = (same_interfaces n c idle, same_neighbors n c idle, tt)
line_grows n _ c idle = (inl refl, inl refl, idle_only c idle)

policy_grows : (n : ℕ) (said : PolicyItem) (c : Draft) → c.stanza ≡ closed → IfOk (take_policy n said c) (Grows n c)
unfolding take_policy
policy_grows n (policy.PrefixEntry name e) c idle =
    stands_once (Grows n c) n (has_prefix_entry c.prefix_lists name e.seq) _ (λ b. (inl refl, inl refl, idle_only c idle))
policy_grows n (policy.CommunityLine name line) c idle = (inl refl, inl refl, idle_only c idle)
policy_grows n (policy.MapHead name e) c idle =
    stands_once (Grows n c) n (has_map_entry c.route_maps name e.seq) _ (λ b. (same_interfaces n c idle, same_neighbors n c idle, tt))
policy_grows n policy.Ignored c idle = (same_interfaces n c idle, same_neighbors n c idle, tt)
policy_grows n _ c idle = (inl refl, inl refl, idle_only c idle)

-- ---- lines of stanzas

interface_keeps : (n : ℕ) (said : RouterItem) (i : Interface) → IfOk (set_interface n said i) (λ (j : Interface). j.line ≡ i.line)
unfolding set_interface
interface_keeps n (item.IpAddress address) i = stands_once (λ (j : Interface). j.line ≡ i.line) n (is_some i.address) _ (λ e. refl)
interface_keeps n (item.Cost cost) i = stands_once (λ (j : Interface). j.line ≡ i.line) n (is_some i.cost) _ (λ e. refl)
interface_keeps n item.Shutdown i = refl
interface_keeps n _ i = refl

abbrev HasLineOf : Neighbor → Neighbor → Type 0
HasLineOf p q = q.line ≡ p.line

neighbor_keeps : (n : ℕ) (said : RouterItem) (p : Neighbor) → IfOk (set_neighbor n said p) (HasLineOf p)
unfolding set_neighbor
neighbor_keeps n (item.PeerShut addr) p = refl
neighbor_keeps n (item.PeerSends addr) p = refl
neighbor_keeps n (item.PeerList addr list true) p = stands_once (HasLineOf p) n (is_some p.list_in) _ (λ e. refl)
neighbor_keeps n (item.PeerList addr list false) p = stands_once (HasLineOf p) n (is_some p.list_out) _ (λ e. refl)
neighbor_keeps n (item.PeerMap addr map true) p = stands_once (HasLineOf p) n (is_some p.map_in) _ (λ e. refl)
neighbor_keeps n (item.PeerMap addr map false) p = stands_once (HasLineOf p) n (is_some p.map_out) _ (λ e. refl)
neighbor_keeps n _ p = refl

abbrev HaveLinesOf : List Neighbor → List Neighbor → Type 0
HaveLinesOf ps qs = lines_of_neighbors qs ≡ lines_of_neighbors ps

neighbors_keep : (n addr : ℕ) (said : RouterItem) (ps : List Neighbor) → IfOk (at_neighbor n addr (set_neighbor n said) ps) (HaveLinesOf ps)
unfolding at_neighbor
neighbors_keep n addr said [] = tt
neighbors_keep n addr said (p ∷ ps) =
    either (HaveLinesOf (p ∷ ps)) (p.addr == addr) _ _
    (λ e. then_step (HasLineOf p) (HaveLinesOf (p ∷ ps)) (set_neighbor n said p) _ (neighbor_keeps n said p)
    (λ q same. ap (λ (k : ℕ). k ∷ lines_of_neighbors ps) same))
    (λ e. then_step (HaveLinesOf ps) (HaveLinesOf (p ∷ ps)) (at_neighbor n addr (set_neighbor n said) ps) _ (neighbors_keep n addr said ps)
    (λ qs same. ap (λ (ks : List ℕ). p.line ∷ ks) same))

abbrev GrowsBgp : ℕ → BgpProcess → BgpProcess → Type 0
GrowsBgp n b c = Extends n (lines_of_neighbors b.neighbors) (lines_of_neighbors c.neighbors)

process_grows : (n : ℕ) (said : RouterItem) (b : BgpProcess) → IfOk (set_process n said b) (GrowsBgp n b)
unfolding set_process
process_grows n (item.Base base) b = stands_once (GrowsBgp n b) n (is_some b.base) _ (λ e. inl refl)
process_grows n (item.Network net) b = stands_once (GrowsBgp n b) n (has_network b.networks net.prefix) _ (λ e. inl refl)
process_grows n (item.RemoteAs addr number) b =
    stands_once (GrowsBgp n b) n (has_neighbor b.neighbors addr) _ (λ e. inr (map_push (λ (p : Neighbor). p.line) b.neighbors (new_neighbor n addr number)))
process_grows n _ b = inl refl

bgp_grows : (n : ℕ) (said : RouterItem) (b : BgpProcess) → IfOk (set_bgp n said b) (GrowsBgp n b)
unfolding set_bgp
bgp_grows n said b = by (peer_of said)
  where
    by : (o : Option ℕ) → IfOk (set_bgp_for o n said b) (GrowsBgp n b)
    by (Some addr) = then_step (HaveLinesOf b.neighbors) (GrowsBgp n b) (at_neighbor n addr (set_neighbor n said) b.neighbors) _
        (neighbors_keep n addr said b.neighbors) (λ qs same. inl same)
    by None = process_grows n said b

-- what a line of a stanza leaves
abbrev GrowsStanza : ℕ → Option BgpProcess → Stanza → Stanza → Type 0
GrowsStanza n bgp st out = (interface_of out ≡ interface_of st) × Extends n (neighbors_open st) (neighbors_open out) × IsOnly bgp out

inner_grows : (l : TextLine) (bgp : Option BgpProcess) (st : Stanza) → IsOnly bgp st → IfOk (take_inner l st) (GrowsStanza l.number bgp st)
unfolding take_inner
inner_grows l bgp closed only = tt
inner_grows l bgp ignored only = (refl, inl refl, tt)
inner_grows l bgp (in_interface i) only =
    then_said IsAny (GrowsStanza l.number bgp (in_interface i)) l.number (router_item_of scope.Interface l.number l.words) _
    (any_result (router_item_of scope.Interface l.number l.words)) (λ said any.
    then_step (λ (j : Interface). j.line ≡ i.line) (GrowsStanza l.number bgp (in_interface i)) _ _ (interface_keeps l.number said i)
    (λ j same. let out : GrowsStanza l.number bgp (in_interface i) (in_interface j) = (ap (λ (k : ℕ). k ∷ []) same, inl refl, tt) in out))
inner_grows l bgp (in_bgp b) only =
    then_said IsAny (GrowsStanza l.number bgp (in_bgp b)) l.number (router_item_of scope.Bgp l.number l.words) _
    (any_result (router_item_of scope.Bgp l.number l.words)) (λ said any.
    then_step (GrowsBgp l.number b) (GrowsStanza l.number bgp (in_bgp b)) _ _ (bgp_grows l.number said b)
    (λ c grows. let out : GrowsStanza l.number bgp (in_bgp b) (in_bgp c) = (refl, grows, only) in out))
inner_grows l bgp (in_ospf o) only =
    then_said IsAny (GrowsStanza l.number bgp (in_ospf o)) l.number (router_item_of scope.Ospf l.number l.words) _
    (any_result (router_item_of scope.Ospf l.number l.words)) (λ said any. (refl, inl refl, tt))
inner_grows l bgp (in_entry name e) only =
    then_said IsAny (GrowsStanza l.number bgp (in_entry name e)) l.number (policy_item_of policy_scope.Entry l.number l.words) _
    (any_result (policy_item_of policy_scope.Entry l.number l.words)) (λ said any.
    then_step IsAny (GrowsStanza l.number bgp (in_entry name e)) (set_entry l.number said e) _ (any_result (set_entry l.number said e))
    (λ f any. let out : GrowsStanza l.number bgp (in_entry name e) (in_entry name f) = (refl, inl refl, tt) in out))

-- ---- the state

abbrev pub routers_interfaces : List Router → List ℕ
routers_interfaces rs = flat_map (λ (r : Router). lines_of_interfaces r.interfaces) rs

abbrev pub routers_neighbors : List Router → List ℕ
routers_neighbors rs = flat_map (λ (r : Router). neighbors_in r.bgp) rs

abbrev pub state_interfaces : State → List ℕ
state_interfaces s = routers_interfaces s.routers ++ draft_interfaces s.draft

abbrev pub state_neighbors : State → List ℕ
state_neighbors s = routers_neighbors s.routers ++ draft_neighbors s.draft

abbrev GrowsState : ℕ → State → State → Type 0
GrowsState n s t = Extends n (state_interfaces s) (state_interfaces t) × Extends n (state_neighbors s) (state_neighbors t) × IsOnly t.draft.bgp t.draft.stanza

pub extends_behind : (n : ℕ) (front before now after : List ℕ) → now ≡ before → Extends n now after → Extends n (front ++ before) (front ++ after)
extends_behind n front before now after same (inl e) = inl (ap (λ (ks : List ℕ). front ++ ks) (e ∙ same))
extends_behind n front before now after same (inr e) =
    inr (ap (λ (ks : List ℕ). front ++ ks) (e ∙ ap (λ (ks : List ℕ). ks ++ n ∷ []) same) ∙ sym (append_assoc front before (n ∷ [])))

-- a draft that grows from a closed one, in its state
in_state : (n : ℕ) (rs : List Router) (d c e : Draft) → IsClosedOf d c → Grows n c e →
    GrowsState n (record { routers = rs; draft = d }) (record { routers = rs; draft = e })
in_state n rs d c e of grows = (
  extends_behind n (routers_interfaces rs) (draft_interfaces d) (draft_interfaces c) (draft_interfaces e) of.interfaces grows.0,
  extends_behind n (routers_neighbors rs) (draft_neighbors d) (draft_neighbors c) (draft_neighbors e) of.neighbors grows.1,
  grows.2,
)

-- a router that ends takes its draft's lines along
pub moved : {X : Type 0} (lines : X → List ℕ) (xs : List X) (x : X) (draft : List ℕ) → draft ≡ lines x → flat_map lines (xs ++ x ∷ []) ++ [] ≡ flat_map lines xs
    ++ draft
moved lines xs x draft e = append-nil (flat_map lines (xs ++ x ∷ [])) ∙ flat_map-append lines xs (x ∷ [])
    ∙ ap (λ (ks : List ℕ). flat_map lines xs ++ ks) (append-nil (lines x) ∙ sym e)

named_grows : (n : ℕ) (rs : List Router) (d c : Draft) (name : Option Named) → IsClosedOf d c →
    IfOk (named_router n name c) (λ (r : Router). GrowsState n (record { routers = rs; draft = d }) (record { routers = rs ++ r ∷ []; draft = no_draft }))
named_grows n rs d c None of = tt
named_grows n rs d c (Some host) of = (
  inl (moved (λ (r : Router). lines_of_interfaces r.interfaces) rs _ (draft_interfaces d) (sym of.interfaces ∙ idle_interfaces c of.idle)),
  inl (moved (λ (r : Router). neighbors_in r.bgp) rs _ (draft_neighbors d) (sym of.neighbors ∙ idle_neighbors c of.idle)),
  tt,
)

top_grows : (n : ℕ) (said : RouterItem) (rs : List Router) (d c : Draft) → IsClosedOf d c →
    IfOk (take_top n said (record { routers = rs; draft = c })) (GrowsState n (record { routers = rs; draft = d }))
unfolding take_top
top_grows n said rs d c of =
    either (GrowsState n (record { routers = rs; draft = d })) (ends_router said) _ _
    (λ e. then_step (λ (r : Router). GrowsState n (record { routers = rs; draft = d }) (record { routers = rs ++ r ∷ []; draft = no_draft }))
    (GrowsState n (record { routers = rs; draft = d })) (named_router n c.name c) _ (named_grows n rs d c c.name of) (λ r grows. grows))
    (λ e. then_step (Grows n c) (GrowsState n (record { routers = rs; draft = d })) (take_line n said c) _ (line_grows n said c of.idle)
    (λ x grows. in_state n rs d c x of grows))

-- an open stanza that grows, in its state
stanza_state : (n : ℕ) (s : State) (out : Stanza) → GrowsStanza n s.draft.bgp s.draft.stanza out →
    GrowsState n s (record s { draft = record s.draft { stanza = out } })
stanza_state n s out grows = (
  inl (ap (λ (ks : List ℕ). routers_interfaces s.routers ++ (lines_of_interfaces s.draft.interfaces ++ ks)) grows.0),
  extends_behind n (routers_neighbors s.routers) (draft_neighbors s.draft) (draft_neighbors s.draft) (neighbors_in s.draft.bgp ++ neighbors_open out) refl
      (extends_behind n (neighbors_in s.draft.bgp) (neighbors_open s.draft.stanza) (neighbors_open s.draft.stanza) (neighbors_open out) refl grows.1),
  grows.2,
)

one_step : (s : State) (l : TextLine) → IsOnly s.draft.bgp s.draft.stanza → IfOk (step s l) (GrowsState l.number s)
unfolding step step_policy step_router
one_step s l only =
    let of = closed_of s.draft only in
    either (GrowsState l.number s) (l.indent == 0) _ _
    (λ top. either (GrowsState l.number s) (is_policy_line l.words) _ _
    (λ listed. then_said IsAny (GrowsState l.number s) l.number (policy_item_of policy_scope.Top l.number l.words) _
    (any_result (policy_item_of policy_scope.Top l.number l.words)) (λ said any.
    then_step (Grows l.number (with_closed s.draft)) (GrowsState l.number s) _ _ (policy_grows l.number said (with_closed s.draft) of.idle)
    (λ d grows. in_state l.number s.routers s.draft (with_closed s.draft) d of grows)))
    (λ other. then_said IsAny (GrowsState l.number s) l.number (router_item_of scope.Top l.number l.words) _
    (any_result (router_item_of scope.Top l.number l.words)) (λ said any.
    top_grows l.number said s.routers s.draft (with_closed s.draft) of)))
    (λ inner. then_step (GrowsStanza l.number s.draft.bgp s.draft.stanza) (GrowsState l.number s) (take_inner l s.draft.stanza) _
    (inner_grows l s.draft.bgp s.draft.stanza only) (λ out grows. stanza_state l.number s out grows))

-- ---- all lines

-- the numbers of lines ascend, from above this one, up to the limit
abbrev pub AreNumbered : ℕ → List TextLine → Type 0
AreNumbered m [] = Unit {0}
AreNumbered m (l ∷ ls) = (m < l.number) × (l.number ≤ 1000000) × AreNumbered l.number ls

-- ascending numbers from 1 up to the limit, none above this one
pub record IsInOrder (m : ℕ) (ks : List ℕ) : Type 0 where
  pub ascending : IsAscending ks
  pub upto : AllByRecursion (λ (k : ℕ). k ≤ m) ks
  pub range : AllByRecursion (λ (k : ℕ). (1 ≤ k) × (k ≤ 1000000)) ks

above_push : (x n : ℕ) (ks : List ℕ) → AllAbove x ks → x < n → AllAbove x (ks ++ n ∷ [])
above_push x n [] all less = (less, tt)
above_push x n (k ∷ ks) all less = (all.0, above_push x n ks all.1 less)

ascending_push : (m n : ℕ) (ks : List ℕ) → IsAscending ks → AllByRecursion (λ (k : ℕ). k ≤ m) ks → m < n → IsAscending (ks ++ n ∷ [])
ascending_push m n [] up all less = (tt, tt)
ascending_push m n (k ∷ ks) up all less = (above_push k n ks up.0 (let le = all.0 in omega arith), ascending_push m n ks up.1 all.1 less)

pub order_next : (m n : ℕ) (before after : List ℕ) → IsInOrder m before → m < n → n ≤ 1000000 → Extends n before after → IsInOrder n after
order_next m n before after is less small (inl e) =
    rw e (record { ascending = is.ascending; upto = all_weaker (λ (k : ℕ). k ≤ m) (λ (k : ℕ). k ≤ n) (λ k le. omega arith) before is.upto; range = is.range })
order_next m n before after is less small (inr e) =
    rw e (record {
      ascending = ascending_push m n before is.ascending is.upto less;
      upto = all_push (λ (k : ℕ). k ≤ n) before n (all_weaker (λ (k : ℕ). k ≤ m) (λ (k : ℕ). k ≤ n) (λ k le. omega arith) before is.upto) (omega arith);
      range = all_push (λ (k : ℕ). (1 ≤ k) × (k ≤ 1000000)) before n is.range (omega arith, small);
    })

pub record IsOrdered (m : ℕ) (s : State) : Type 0 where
  pub interfaces : IsInOrder m (state_interfaces s)
  pub neighbors : IsInOrder m (state_neighbors s)
  pub only : IsOnly s.draft.bgp s.draft.stanza

pub start_ordered : IsOrdered 0 at_start
start_ordered = record {
  interfaces = record { ascending = tt; upto = tt; range = tt };
  neighbors = record { ascending = tt; upto = tt; range = tt };
  only =
      tt;
}

-- in order, up to some line
abbrev pub AreOrdered : State → Type 0
AreOrdered s = (m : ℕ) × IsOrdered m s

pub ordered_steps : (ls : List TextLine) (s : State) (m : ℕ) → AreNumbered m ls → IsOrdered m s → IfOk (steps s ls) AreOrdered
unfolding steps
ordered_steps [] s m numbered is = (m, is)
ordered_steps (l ∷ ls) s m numbered is =
    then_step (GrowsState l.number s) AreOrdered (step s l) _ (one_step s l is.only) (λ t grows.
    ordered_steps ls t l.number numbered.2 (record {
      interfaces = order_next m l.number (state_interfaces s) (state_interfaces t) is.interfaces numbered.0 numbered.1 grows.0;
      neighbors = order_next m l.number (state_neighbors s) (state_neighbors t) is.neighbors numbered.0 numbered.1 grows.1;
      only = grows.2;
    }))

-- ---- what stands of the routers

ascending_front : (xs ys : List ℕ) → IsAscending (xs ++ ys) → IsAscending xs
ascending_front [] ys up = tt
ascending_front (x ∷ xs) ys up = (above_front x xs ys up.0, ascending_front xs ys up.1)
  where
    above_front : (n : ℕ) (ks ms : List ℕ) → AllAbove n (ks ++ ms) → AllAbove n ks
    above_front n [] ms all = tt
    above_front n (k ∷ ks) ms all = (all.0, above_front n ks ms all.1)

all_front : (P : ℕ → Type 0) (xs ys : List ℕ) → AllByRecursion P (xs ++ ys) → AllByRecursion P xs
all_front P [] ys all = tt
all_front P (x ∷ xs) ys all = (all.0, all_front P xs ys all.1)

-- ascending numbers above one and up to a limit are no more than fit between
count_above : (low most : ℕ) (ks : List ℕ) → low ≤ most → AllAbove low ks → IsAscending ks → AllByRecursion (λ (k : ℕ). k ≤ most) ks → low + length ks ≤ most
count_above low most [] le above up all = omega arith
count_above low most (k ∷ ks) le above up all = let first = above.0 in let rest = count_above k most ks all.0 up.0 up.1 all.1 in omega (arith, rest)

zero_below : (ks : List ℕ) → AllByRecursion (λ (k : ℕ). (1 ≤ k) × (k ≤ 1000000)) ks → AllAbove 0 ks
zero_below [] all = tt
zero_below (k ∷ ks) all = (let some = all.0.0 in omega arith, zero_below ks all.1)

-- numbers of lines in order
pub record AreLines (ks : List ℕ) : Type 0 where
  pub ascending : IsAscending ks
  pub few : length ks ≤ 1000000

pub front_lines : (m : ℕ) (xs ys : List ℕ) → IsInOrder m (xs ++ ys) → AreLines xs
front_lines m xs ys is =
    let up = ascending_front xs ys is.ascending in
    let range = all_front (λ (k : ℕ). (1 ≤ k) × (k ≤ 1000000)) xs ys is.range in
    record {
      ascending = up;
      few = (let count = count_above 0 1000000 xs (omega arith) (zero_below xs range) up
          (all_weaker (λ (k : ℕ). (1 ≤ k) × (k ≤ 1000000)) (λ (k : ℕ). k ≤ 1000000) (λ k is. is.1) xs range) in omega (arith, count));
    }

pub routers_lines : (s : State) → AreOrdered s → AreLines (routers_interfaces s.routers) × AreLines (routers_neighbors s.routers)
routers_lines s (m, is) = (
  front_lines m (routers_interfaces s.routers) (draft_interfaces s.draft) is.interfaces,
  front_lines m (routers_neighbors s.routers) (draft_neighbors s.draft) is.neighbors,
)
