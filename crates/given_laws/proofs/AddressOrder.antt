-- The `ip address` lines of interfaces stand in the order of interfaces.
use Rattle.std.proofs.Common.{◌≡◌, ℕ, false, List, [], ◌∷◌, ◌++◌, Option, Some, None, refl, sym, ap, ◌∙◌, inl, inr}
use Rattle.std.specs.Prelude.{IfOk, is_some, ◌==◌, filter_map, option_to_list}
use Rattle.std.specs.Option.{option_map}
use Rattle.std.specs.List.{flat_map, cons_option}
use Rattle.std.proofs.lemmas.List.{append-nil}
use Rattle.std.proofs.lemmas.List.Elements.{filter_map-append}
use Rattle.cfg_ast.specs.declared.network.Named.{Named}
use Rattle.cfg_ast.specs.declared.network.Router.{Router}
use Rattle.cfg_ast.specs.declared.interface.Interface.{Interface}
use Rattle.cfg_ast.specs.declared.items.Scope.TheVariants as scope
use Rattle.cfg_ast.specs.declared.items.RouterItem.{RouterItem}
use Rattle.cfg_ast.specs.declared.items.RouterItem.TheVariants as item
use Rattle.cfg_ast.specs.declared.items.PolicyScope.TheVariants as policy_scope
use Rattle.cfg_ast.specs.declared.items.PolicyItem.{PolicyItem}
use Rattle.cfg_ast.specs.declared.items.PolicyItem.TheVariants as policy
use Rattle.cfg_ast.specs.meaning.Addresses.{Address}
use Rattle.cfg_ast.specs.text.TextLines.{TextLine}
use Rattle.cfg_ast.specs.text.PolicyLines.{is_policy_line, has_prefix_entry, has_map_entry, set_entry}
use Rattle.cfg_ast.specs.text.RouterForms.{router_item_of}
use Rattle.cfg_ast.specs.text.PolicyForms.{policy_item_of}
use Rattle.cfg_ast.specs.text.Stanzas.{set_interface, set_bgp}
use Rattle.cfg_ast.specs.text.Reading.{Stanza, closed, ignored, in_interface, in_bgp, in_ospf, in_entry, Draft, State, no_draft, at_start, closing_stanza, with_closed, has_interface, take_line, named_router, ends_router, take_top, take_policy, step_policy, step_router, take_inner, step, steps}
use Rattle.given_laws.specs.Laws.{address_line_of}
use Rattle.given_laws.proofs.AddressItems.{IsAddressAt, address_of_line}
use Rattle.given_laws.proofs.Given.{IsAny, any_result, either, then_step, then_said, stands_once}
use Rattle.given_laws.proofs.LineOrder.{Extends, AreNumbered, IsInOrder, order_next, extends_behind, moved, closing_closed, AreLines, front_lines}

-- ---- the lines of what stands so far

abbrev lines_of_addresses : List Interface → List ℕ
lines_of_addresses is = filter_map address_line_of is

abbrev address_open : Stanza → List ℕ
address_open (in_interface i) = option_to_list (address_line_of i)
address_open _ = []

abbrev draft_addresses : Draft → List ℕ
draft_addresses d = lines_of_addresses d.interfaces ++ address_open d.stanza

-- ---- a stanza is closed

one_line : (o : Option ℕ) → cons_option o [] ≡ option_to_list o
one_line None = refl
one_line (Some n) = refl

closing_addresses : (st : Stanza) (d : Draft) → d.stanza ≡ st → draft_addresses (closing_stanza st d) ≡ draft_addresses d
closing_addresses closed d same = refl
closing_addresses (in_interface i) d same =
    append-nil (lines_of_addresses (d.interfaces ++ i ∷ []))
    ∙ filter_map-append address_line_of d.interfaces (i ∷ [])
    ∙ ap (λ (ks : List ℕ). lines_of_addresses d.interfaces ++ ks) (one_line (address_line_of i))
    ∙ ap (λ (st : Stanza). lines_of_addresses d.interfaces ++ address_open st) (sym same)
closing_addresses ignored d same = ap (λ (st : Stanza). lines_of_addresses d.interfaces ++ address_open st) (sym same)
closing_addresses (in_bgp b) d same = ap (λ (st : Stanza). lines_of_addresses d.interfaces ++ address_open st) (sym same)
closing_addresses (in_ospf o) d same = ap (λ (st : Stanza). lines_of_addresses d.interfaces ++ address_open st) (sym same)
closing_addresses (in_entry name e) d same = ap (λ (st : Stanza). lines_of_addresses d.interfaces ++ address_open st) (sym same)

-- a draft whose stanza is closed, with the addresses of another
record IsClosedOf (d c : Draft) : Type 0 where
  idle : c.stanza ≡ closed
  addresses : draft_addresses c ≡ draft_addresses d

closed_of : (d : Draft) → IsClosedOf d (with_closed d)
unfolding with_closed
closed_of d = record { idle = closing_closed d.stanza d refl; addresses = closing_addresses d.stanza d refl }

idle_addresses : (c : Draft) → c.stanza ≡ closed → draft_addresses c ≡ lines_of_addresses c.interfaces
idle_addresses c idle = ap (λ (st : Stanza). lines_of_addresses c.interfaces ++ address_open st) idle ∙ append-nil (lines_of_addresses c.interfaces)

-- ---- top lines: no address is given

abbrev Keeps : Draft → Draft → Type 0
Keeps c e = draft_addresses e ≡ draft_addresses c

same_addresses : (c : Draft) → c.stanza ≡ closed → lines_of_addresses c.interfaces ++ [] ≡ draft_addresses c
same_addresses c idle = append-nil (lines_of_addresses c.interfaces) ∙ sym (idle_addresses c idle)

line_keeps : (n : ℕ) (said : RouterItem) (c : Draft) → c.stanza ≡ closed → IfOk (take_line n said c) (Keeps c)
unfolding take_line
line_keeps n (item.Hostname name) c idle = stands_once (Keeps c) n (is_some c.name) _ (λ e. refl)
line_keeps n (item.Interface name) c idle = stands_once (Keeps c) n (has_interface c.interfaces name) _ (λ e. same_addresses c idle)
line_keeps n (item.Bgp number) c idle = stands_once (Keeps c) n (is_some c.bgp) _ (λ e. same_addresses c idle)
line_keeps n (item.Ospf number) c idle = stands_once (Keeps c) n (is_some c.ospf) _ (λ e. same_addresses c idle)
line_keeps n item.Ignored c idle = same_addresses c idle
line_keeps n _ c idle = refl

policy_keeps : (n : ℕ) (said : PolicyItem) (c : Draft) → c.stanza ≡ closed → IfOk (take_policy n said c) (Keeps c)
unfolding take_policy
policy_keeps n (policy.PrefixEntry name e) c idle = stands_once (Keeps c) n (has_prefix_entry c.prefix_lists name e.seq) _ (λ b. refl)
policy_keeps n (policy.CommunityLine name line) c idle = refl
policy_keeps n (policy.MapHead name e) c idle = stands_once (Keeps c) n (has_map_entry c.route_maps name e.seq) _ (λ b. same_addresses c idle)
policy_keeps n policy.Ignored c idle = same_addresses c idle
policy_keeps n _ c idle = refl

-- ---- lines of stanzas

abbrev GrowsAddress : ℕ → Interface → Interface → Type 0
GrowsAddress n i j = Extends n (option_to_list (address_line_of i)) (option_to_list (address_line_of j))

first_address : (n : ℕ) (before : Option Address) (address : Address) → is_some before ≡ false → address.line ≡ n →
    Extends n (option_to_list (option_map (λ (a : Address). a.line) before)) (address.line ∷ [])
first_address n None address e at = inr (ap (λ (k : ℕ). k ∷ []) at)
first_address n (Some a) address e at = absurd cc

interface_grows : (n : ℕ) (said : RouterItem) (i : Interface) → IsAddressAt n said → IfOk (set_interface n said i) (GrowsAddress n i)
unfolding set_interface
interface_grows n (item.IpAddress address) i at = stands_once (GrowsAddress n i) n (is_some i.address) _ (λ e. first_address n i.address address e at)
interface_grows n (item.Cost cost) i at = stands_once (GrowsAddress n i) n (is_some i.cost) _ (λ e. inl refl)
interface_grows n item.Shutdown i at = inl refl
interface_grows n _ i at = inl refl

abbrev GrowsOpen : ℕ → Stanza → Stanza → Type 0
GrowsOpen n st out = Extends n (address_open st) (address_open out)

inner_grows : (l : TextLine) (st : Stanza) → IfOk (take_inner l st) (GrowsOpen l.number st)
unfolding take_inner
inner_grows l closed = tt
inner_grows l ignored = inl refl
inner_grows l (in_interface i) =
    then_said (IsAddressAt l.number) (GrowsOpen l.number (in_interface i)) l.number (router_item_of scope.Interface l.number l.words) _
    (address_of_line scope.Interface l.number l.words) (λ said at.
    then_step (GrowsAddress l.number i) (GrowsOpen l.number (in_interface i)) _ _ (interface_grows l.number said i at)
    (λ j grows. let out : GrowsOpen l.number (in_interface i) (in_interface j) = grows in out))
inner_grows l (in_bgp b) =
    then_said IsAny (GrowsOpen l.number (in_bgp b)) l.number (router_item_of scope.Bgp l.number l.words) _
    (any_result (router_item_of scope.Bgp l.number l.words)) (λ said any.
    then_step IsAny (GrowsOpen l.number (in_bgp b)) (set_bgp l.number said b) _ (any_result (set_bgp l.number said b))
    (λ c any. let out : GrowsOpen l.number (in_bgp b) (in_bgp c) = inl refl in out))
inner_grows l (in_ospf o) =
    then_said IsAny (GrowsOpen l.number (in_ospf o)) l.number (router_item_of scope.Ospf l.number l.words) _
    (any_result (router_item_of scope.Ospf l.number l.words)) (λ said any. inl refl)
inner_grows l (in_entry name e) =
    then_said IsAny (GrowsOpen l.number (in_entry name e)) l.number (policy_item_of policy_scope.Entry l.number l.words) _
    (any_result (policy_item_of policy_scope.Entry l.number l.words)) (λ said any.
    then_step IsAny (GrowsOpen l.number (in_entry name e)) (set_entry l.number said e) _ (any_result (set_entry l.number said e))
    (λ f any. let out : GrowsOpen l.number (in_entry name e) (in_entry name f) = inl refl in out))

-- ---- the state

abbrev pub routers_addresses : List Router → List ℕ
routers_addresses rs = flat_map (λ (r : Router). filter_map address_line_of r.interfaces) rs

abbrev state_addresses : State → List ℕ
state_addresses s = routers_addresses s.routers ++ draft_addresses s.draft

abbrev GrowsState : ℕ → State → State → Type 0
GrowsState n s t = Extends n (state_addresses s) (state_addresses t)

-- a draft that keeps the addresses of a closed one, in its state
in_state : (n : ℕ) (rs : List Router) (d c e : Draft) → IsClosedOf d c → Keeps c e →
    GrowsState n (record { routers = rs; draft = d }) (record { routers = rs; draft = e })
in_state n rs d c e of keeps = inl (ap (λ (ks : List ℕ). routers_addresses rs ++ ks) (keeps ∙ of.addresses))

named_grows : (n : ℕ) (rs : List Router) (d c : Draft) (name : Option Named) → IsClosedOf d c →
    IfOk (named_router n name c) (λ (r : Router). GrowsState n (record { routers = rs; draft = d }) (record { routers = rs ++ r ∷ []; draft = no_draft }))
named_grows n rs d c None of = tt
named_grows n rs d c (Some host) of = inl
    (moved (λ (r : Router). filter_map address_line_of r.interfaces) rs _ (draft_addresses d) (sym of.addresses ∙ idle_addresses c of.idle))

top_grows : (n : ℕ) (said : RouterItem) (rs : List Router) (d c : Draft) → IsClosedOf d c →
    IfOk (take_top n said (record { routers = rs; draft = c })) (GrowsState n (record { routers = rs; draft = d }))
unfolding take_top
top_grows n said rs d c of =
    either (GrowsState n (record { routers = rs; draft = d })) (ends_router said) _ _
    (λ e. then_step (λ (r : Router). GrowsState n (record { routers = rs; draft = d }) (record { routers = rs ++ r ∷ []; draft = no_draft }))
    (GrowsState n (record { routers = rs; draft = d })) (named_router n c.name c) _ (named_grows n rs d c c.name of) (λ r grows. grows))
    (λ e. then_step (Keeps c) (GrowsState n (record { routers = rs; draft = d })) (take_line n said c) _ (line_keeps n said c of.idle)
    (λ x keeps. in_state n rs d c x of keeps))

stanza_state : (n : ℕ) (s : State) (out : Stanza) → GrowsOpen n s.draft.stanza out → GrowsState n s (record s { draft = record s.draft { stanza = out } })
stanza_state n s out grows =
    extends_behind n (routers_addresses s.routers) (draft_addresses s.draft) (draft_addresses s.draft)
    (lines_of_addresses s.draft.interfaces ++ address_open out) refl
    (extends_behind n (lines_of_addresses s.draft.interfaces) (address_open s.draft.stanza) (address_open s.draft.stanza) (address_open out) refl grows)

one_step : (s : State) (l : TextLine) → IfOk (step s l) (GrowsState l.number s)
unfolding step step_policy step_router
one_step s l =
    let of = closed_of s.draft in
    either (GrowsState l.number s) (l.indent == 0) _ _
    (λ top. either (GrowsState l.number s) (is_policy_line l.words) _ _
    (λ listed. then_said IsAny (GrowsState l.number s) l.number (policy_item_of policy_scope.Top l.number l.words) _
    (any_result (policy_item_of policy_scope.Top l.number l.words)) (λ said any.
    then_step (Keeps (with_closed s.draft)) (GrowsState l.number s) _ _ (policy_keeps l.number said (with_closed s.draft) of.idle)
    (λ d keeps. in_state l.number s.routers s.draft (with_closed s.draft) d of keeps)))
    (λ other. then_said IsAny (GrowsState l.number s) l.number (router_item_of scope.Top l.number l.words) _
    (any_result (router_item_of scope.Top l.number l.words)) (λ said any.
    top_grows l.number said s.routers s.draft (with_closed s.draft) of)))
    (λ inner. then_step (GrowsOpen l.number s.draft.stanza) (GrowsState l.number s) (take_inner l s.draft.stanza) _ (inner_grows l s.draft.stanza)
    (λ out grows. stanza_state l.number s out grows))

-- ---- all lines

-- in order, up to some line
abbrev pub HasAddressesInOrder : State → Type 0
HasAddressesInOrder s = (m : ℕ) × IsInOrder m (state_addresses s)

pub address_steps : (ls : List TextLine) (s : State) (m : ℕ) → AreNumbered m ls → IsInOrder m (state_addresses s) → IfOk (steps s ls) HasAddressesInOrder
unfolding steps
address_steps [] s m numbered is = (m, is)
address_steps (l ∷ ls) s m numbered is =
    then_step (GrowsState l.number s) HasAddressesInOrder (step s l) _ (one_step s l)
    (λ t grows. address_steps ls t l.number numbered.2 (order_next m l.number (state_addresses s) (state_addresses t) is numbered.0 numbered.1 grows))

pub start_addresses : IsInOrder 0 (state_addresses at_start)
start_addresses = record { ascending = tt; upto = tt; range = tt }

pub addresses_lines : (s : State) → HasAddressesInOrder s → AreLines (routers_addresses s.routers)
addresses_lines s (m, is) = front_lines m (routers_addresses s.routers) (draft_addresses s.draft) is
