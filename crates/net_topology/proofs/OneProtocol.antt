-- A network without faults runs one protocol, so its links are sessions alone or adjacencies alone.
-- Public: crates above may cite it.
use Rattle.std.proofs.Common.{◌≡◌, Bool, true, false, cond, ◌&&◌, List, [], ◌∷◌, map, ◌⊎◌, inl, inr, Option, Some, None, refl, sym, ◌∙◌, ap, subst}
use Rattle.std.specs.Prelude.{not, filter, slice_get, nat_lt}
use Rattle.std.specs.Option.{option_map, option_map_or}
use Rattle.std.specs.List.{enumerate_from}
use Rattle.base_kit.specs.declared.protocol.Protocol.{Protocol}
use Rattle.base_kit.specs.declared.protocol.Protocol.TheVariants as protocol
use Rattle.base_kit.proofs.Elements.{In, in_map, map_in, in_filter, in_flat_map, flat_map_in, enumerate_in, get_in}
use Rattle.cfg_ast.specs.meaning.Addresses.{Address}
use Rattle.cfg_ast.specs.declared.bgp.BgpProcess.{BgpProcess}
use Rattle.cfg_ast.specs.declared.interface.Interface.{Interface}
use Rattle.cfg_ast.specs.declared.network.Network.{Network}
use Rattle.cfg_ast.specs.declared.network.Router.{Router}
use Rattle.cfg_ast.specs.declared.ospf.OspfProcess.{OspfProcess}
use Rattle.cfg_ast.specs.meaning.RouterFaults.{ProtocolLine, of_bgp, of_ospf, lines_in_order, protocol_lines_of, protocol_lines, is_same_protocol, same_protocol, unlike_first, mixed_protocol_lines, protocol_of}
use Rattle.cfg_check.specs.Items.{line_of_protocol}
use Rattle.cfg_ast.specs.meaning.Topology.{Place, place_on, places_on, places, interfaces_of, neighbors_of, links_from, links_joining, is_session, are_adjacent, both_in_one_subnet, active_address, is_passive_in, process_has_address, up_address, sessions_of, adjacencies_of}

-- ---- lines of one protocol

none_in : {X : Type 0} (xs : List X) (x : X) → xs ≡ [] → In xs x → ⊥
none_in {X} xs x e at = let P : List X → Type 0 = λ l. In l x in subst P e at

same_as : (p q : Protocol) → not (is_same_protocol p q) ≡ false → q ≡ p
same_as protocol.Bgp protocol.Bgp e = refl
same_as protocol.Bgp protocol.Ospf e = absurd cc
same_as protocol.Ospf protocol.Bgp e = absurd cc
same_as protocol.Ospf protocol.Ospf e = refl

bool_cases : (b : Bool) → (b ≡ true) ⊎ (b ≡ false)
bool_cases true = inl refl
bool_cases false = inr refl

all_like_first : (p : Protocol) (lines : List ProtocolLine) → option_map (λ (l : ProtocolLine). l.protocol) (slice_get lines 0) ≡ Some p →
    map line_of_protocol (unlike_first same_protocol lines) ≡ [] → (l : ProtocolLine) → In lines l → l.protocol ≡ p
all_like_first p [] first none l at = absurd at
all_like_first p (m ∷ lines) first none l (inl same) = ap (λ (k : ProtocolLine). k.protocol) (sym same) ∙ (let e : m.protocol ≡ p = cc in e)
all_like_first p (m ∷ lines) first none l (inr at) =
    let is : m.protocol ≡ p = cc in
    elim (bool_cases (not (same_protocol m l))) [
      | inl unlike ↦ absurd (none_in (map line_of_protocol (filter (λ k. not (same_protocol m k)) lines)) l.line none
          (in_map line_of_protocol (filter (λ k. not (same_protocol m k)) lines) l (in_filter (λ k. not (same_protocol m k)) lines l at unlike)))
      | inr like ↦ same_as p l.protocol (ap (λ (q : Protocol). not (is_same_protocol q l.protocol)) (sym is) ∙ like)
    ]

-- a line of one of two processes, in either order
of_two : (x y : ProtocolLine) (first : Bool) → In (cond first (x ∷ y ∷ []) (y ∷ x ∷ [])) x × In (cond first (x ∷ y ∷ []) (y ∷ x ∷ [])) y
of_two x y true = (inl refl, inr (inl refl))
of_two x y false = (inr (inl refl), inl refl)

bgp_line : (b : BgpProcess) (o : Option OspfProcess) → In (lines_in_order (Some b) o) (of_bgp b)
bgp_line b None = inl refl
bgp_line b (Some o) = (of_two (of_bgp b) (of_ospf o) (nat_lt b.line o.line)).0

ospf_line : (b : Option BgpProcess) (o : OspfProcess) → In (lines_in_order b (Some o)) (of_ospf o)
ospf_line None o = inl refl
ospf_line (Some b) o = (of_two (of_bgp b) (of_ospf o) (nat_lt b.line o.line)).1

without_bgp : (bgp : Option BgpProcess) (ospf : Option OspfProcess) → ((l : ProtocolLine) → In (lines_in_order bgp ospf) l → l.protocol ≡ protocol.Ospf) →
    bgp ≡ None
without_bgp None ospf all = refl
without_bgp (Some b) ospf all = let e = all (of_bgp b) (bgp_line b ospf) in absurd cc

without_ospf : (bgp : Option BgpProcess) (ospf : Option OspfProcess) → ((l : ProtocolLine) → In (lines_in_order bgp ospf) l → l.protocol ≡ protocol.Bgp) →
    ospf ≡ None
without_ospf bgp None all = refl
without_ospf bgp (Some o) all = let e = all (of_ospf o) (ospf_line bgp o) in absurd cc

-- no router of an OSPF network runs BGP
pub no_bgp : (n : Network) → protocol_of n ≡ Some protocol.Ospf → mixed_protocol_lines n ≡ [] → (router : Router) → In n.routers router → router.bgp ≡ None
unfolding mixed_protocol_lines
no_bgp n first none router at = without_bgp router.bgp router.ospf
    (λ l inside. all_like_first protocol.Ospf (protocol_lines n) first none l (in_flat_map protocol_lines_of n.routers router l at inside))

-- no router of a BGP network runs OSPF
pub no_ospf : (n : Network) → protocol_of n ≡ Some protocol.Bgp → mixed_protocol_lines n ≡ [] → (router : Router) → In n.routers router → router.ospf ≡ None
unfolding mixed_protocol_lines
no_ospf n first none router at = without_ospf router.bgp router.ospf
    (λ l inside. all_like_first protocol.Bgp (protocol_lines n) first none l (in_flat_map protocol_lines_of n.routers router l at inside))

nothing_first : (lines : List ProtocolLine) → option_map (λ (l : ProtocolLine). l.protocol) (slice_get lines 0) ≡ None → lines ≡ []
nothing_first [] none = refl
nothing_first (l ∷ lines) none = absurd cc

-- without a protocol no router runs any
pub no_process : (n : Network) → protocol_of n ≡ None → (router : Router) → In n.routers router → (router.bgp ≡ None) × (router.ospf ≡ None)
no_process n none router at =
    let never : (l : ProtocolLine) → In (lines_in_order router.bgp router.ospf) l → ⊥ =
    λ l inside. none_in (protocol_lines n) l (nothing_first (protocol_lines n) none) (in_flat_map protocol_lines_of n.routers router l at inside) in
    (without_bgp router.bgp router.ospf (λ l inside. absurd (never l inside)), without_ospf router.bgp router.ospf (λ l inside. absurd (never l inside)))

-- ---- no links of the other protocol

nothing_in : {X : Type 0} (xs : List X) → ((x : X) → In xs x → ⊥) → xs ≡ []
nothing_in [] none = refl
nothing_in (x ∷ xs) none = absurd (none x (inl refl))

-- a place is one of a router of the network
owner_in : {X : Type 0} (items : Router → List X) (n : Network) (p : Place X) → In (places items n) p → In n.routers p.owner × In (items p.owner) p.value
unfolding places
owner_in {X} items n p at =
    let on = flat_map_in (places_on items) (enumerate_from 0 n.routers) p at in
    let router = enumerate_in n.routers 0 on.0.0 on.0.1 on.1 in
    let made = map_in (place_on on.0.0 on.0.1) (enumerate_from 0 (items on.0.1)) p on.2 in
    let item = enumerate_in (items on.0.1) 0 made.0.0 made.0.1 made.1 in
    let owner : on.0.1 ≡ p.owner = ap (λ (q : Place X). q.owner) made.2 in
    let value : made.0.1 ≡ p.value = ap (λ (q : Place X). q.value) made.2 in (
      subst (λ r. In n.routers r) owner (get_in n.routers router.0 on.0.1 router.2),
      subst (λ (r : Router). In (items r) p.value) owner (subst (λ x. In (items on.0.1) x) value (get_in (items on.0.1) item.0 made.0.1 item.2)),
    )

pub no_sessions : (n : Network) → ((router : Router) → In n.routers router → router.bgp ≡ None) → sessions_of n ≡ []
unfolding sessions_of
no_sessions n without = nothing_in (links_joining is_session (places neighbors_of n)) (λ l at.
    let from = flat_map_in (links_from is_session (places neighbors_of n)) (places neighbors_of n) l at in
    let owner = owner_in neighbors_of n from.0 from.1 in
    let empty : neighbors_of from.0.owner ≡ [] =
    ap (λ (o : Option BgpProcess). option_map_or (λ (process : BgpProcess). process.neighbors) o []) (without from.0.owner owner.0) in
    none_in (neighbors_of from.0.owner) from.0.value empty owner.1)

outside : (o : Option OspfProcess) (a : Option Address) → o ≡ None → option_map_or (process_has_address o) a false ≡ false
outside o None none = refl
outside o (Some a) none = ap (λ (p : Option OspfProcess). process_has_address p a) none

inactive : (p : Place Interface) → p.owner.ospf ≡ None → active_address p ≡ None
inactive p none = ap (λ b. cond (b && not (is_passive_in p.owner.ospf p.value.name)) p.value.address None) (outside p.owner.ospf (up_address p.value) none)

not_adjacent : (p q : Place Interface) → active_address p ≡ None → are_adjacent p q ≡ false
not_adjacent p q none = ap (λ (o : Option Address). nat_lt p.router q.router && both_in_one_subnet o (active_address q)) none
    ∙ nothing (nat_lt p.router q.router)
  where
    nothing : (b : Bool) → (b && false) ≡ false
    nothing true = refl
    nothing false = refl

no_links_from : (p : Place Interface) (ps : List (Place Interface)) → active_address p ≡ None → links_from are_adjacent ps p ≡ []
no_links_from p [] none = refl
no_links_from p (q ∷ ps) none = rw (not_adjacent p q none) (no_links_from p ps none)

pub no_adjacencies : (n : Network) → ((router : Router) → In n.routers router → router.ospf ≡ None) → adjacencies_of n ≡ []
unfolding adjacencies_of
no_adjacencies n without = nothing_in (links_joining are_adjacent (places interfaces_of n)) (λ l at.
    let from = flat_map_in (links_from are_adjacent (places interfaces_of n)) (places interfaces_of n) l at in
    let owner = owner_in interfaces_of n from.0 from.1 in
    none_in (links_from are_adjacent (places interfaces_of n) from.0) l
    (no_links_from from.0 (places interfaces_of n) (inactive from.0 (without from.0.owner owner.0))) from.2)
