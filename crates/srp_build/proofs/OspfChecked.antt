-- A checked OSPF network has what its problem depends on.
use Rattle.std.proofs.Common.{◌≡◌, ℕ, ◌≤◌, Bool, true, false, cond, ◌&&◌, List, [], ◌∷◌, map, length, ◌⊎◌, inl, inr, Option, Some, None, refl, sym, ◌∙◌, ap, subst, arith}
use Rattle.std.specs.Prelude.{not, filter, flat_map, slice_get, is_some}
use Rattle.std.specs.Prelude.{nat_lt, IfSome}
use Rattle.std.specs.Option.{option_map, option_map_or}
use Rattle.std.proofs.lemmas.Bool.Decides.{nat_tests}
use Rattle.base_kit.specs.declared.protocol.Protocol.{Protocol}
use Rattle.base_kit.specs.declared.protocol.Protocol.TheVariants as protocol
use Rattle.base_kit.proofs.Elements.{In, in_contains, in_map, in_filter, in_flat_map, in_filter_map}
use Rattle.cfg_ast.specs.meaning.Addresses.{Address}
use Rattle.cfg_ast.specs.declared.bgp.BgpProcess.{BgpProcess}
use Rattle.cfg_ast.specs.declared.interface.Interface.{Interface}
use Rattle.cfg_ast.specs.declared.network.Network.{Network}
use Rattle.cfg_ast.specs.declared.network.Router.{Router}
use Rattle.cfg_ast.specs.declared.ospf.OspfProcess.{OspfProcess}
use Rattle.cfg_ast.specs.text.Reading.{IsGiven}
use Rattle.cfg_ast.specs.declared.topology.Link.{Link}
use Rattle.cfg_ast.specs.meaning.RouterFaults.{ProtocolLine, of_bgp, of_ospf, lines_in_order, protocol_lines_of, protocol_lines, is_same_protocol, same_protocol, unlike_first, mixed_protocol_lines, protocol_of, area_addresses_with, address_line, no_cost_lines}
use Rattle.cfg_check.specs.Items.{line_of_protocol, has_no_cost, area_address_with}
use Rattle.cfg_ast.specs.meaning.Topology.{is_in_area_interface, process_has_address, up_address, cost_of_interface}
use Rattle.cfg_check.specs.Faultless.{IsFaultless}
use Rattle.given_laws.proofs.WellFormed.{given_costs_are_positive}
use Rattle.srp_build.specs.Ospf.{HasCost, IsOspf}
use Rattle.srp_build.specs.Problem.{is_bgp}
use Rattle.net_topology.proofs.LinkCounts.{few_adjacencies}
use Rattle.srp_build.proofs.LinkEnds.{IsUnmixed, links_are_adjacencies}

-- ---- lists that are empty

none_in : {X : Type 0} (xs : List X) (x : X) → xs ≡ [] → In xs x → ⊥
none_in {X} xs x e at = let P : List X → Type 0 = λ l. In l x in subst P e at

-- ---- no BGP process

same_as : (q p : Protocol) → not (is_same_protocol q p) ≡ false → p ≡ q
same_as protocol.Bgp protocol.Bgp e = refl
same_as protocol.Bgp protocol.Ospf e = absurd cc
same_as protocol.Ospf protocol.Bgp e = absurd cc
same_as protocol.Ospf protocol.Ospf e = refl

bool_cases : (b : Bool) → (b ≡ true) ⊎ (b ≡ false)
bool_cases true = inl refl
bool_cases false = inr refl

-- all `router` lines are of the protocol of the first
pub all_like_first : (q : Protocol) (lines : List ProtocolLine) → option_map (λ (l : ProtocolLine). l.protocol) (slice_get lines 0) ≡ Some q →
    map line_of_protocol (unlike_first same_protocol lines) ≡ [] → (l : ProtocolLine) → In lines l → l.protocol ≡ q
all_like_first q [] first none l at = absurd at
all_like_first q (m ∷ lines) first none l (inl same) = ap (λ (k : ProtocolLine). k.protocol) (sym same) ∙ (let e : m.protocol ≡ q = cc in e)
all_like_first q (m ∷ lines) first none l (inr at) =
    let is : m.protocol ≡ q = cc in
    elim (bool_cases (not (same_protocol m l))) [
      | inl unlike ↦ absurd (none_in (map line_of_protocol (filter (λ k. not (same_protocol m k)) lines)) l.line none
          (in_map line_of_protocol (filter (λ k. not (same_protocol m k)) lines) l (in_filter (λ k. not (same_protocol m k)) lines l at unlike)))
      | inr like ↦ same_as q l.protocol (ap (λ (p : Protocol). not (is_same_protocol p l.protocol)) (sym is) ∙ like)
    ]

bgp_line : (b : BgpProcess) (o : Option OspfProcess) → In (lines_in_order (Some b) o) (of_bgp b)
bgp_line b None = inl refl
bgp_line b (Some o) = either (nat_lt b.line o.line)
  where
    either : (first : Bool) → In (cond first (of_bgp b ∷ of_ospf o ∷ []) (of_ospf o ∷ of_bgp b ∷ [])) (of_bgp b)
    either true = inl refl
    either false = inr (inl refl)

with_bgp : (lines : List ProtocolLine) → ((l : ProtocolLine) → In lines l → l.protocol ≡ protocol.Ospf) →
    (bgp : Option BgpProcess) (ospf : Option OspfProcess) → ((l : ProtocolLine) → In (lines_in_order bgp ospf) l → In lines l) → is_some bgp ≡ false
with_bgp lines all None ospf inside = refl
with_bgp lines all (Some b) ospf inside = let e = all (of_bgp b) (inside (of_bgp b) (bgp_line b ospf)) in absurd cc

pub no_bgp : (n : Network) → protocol_of n ≡ Some protocol.Ospf → mixed_protocol_lines n ≡ [] → (router : Router) → In n.routers router →
    is_some router.bgp ≡ false
unfolding mixed_protocol_lines
no_bgp n first none router at = with_bgp (protocol_lines n) (all_like_first protocol.Ospf (protocol_lines n) first none) router.bgp router.ospf
    (λ l inside. in_flat_map protocol_lines_of n.routers router l at inside)

-- ---- a cost

address_up : (o : Option Address) (f : Address → Bool) → option_map_or f o false ≡ true → (a : Address) × (o ≡ Some a)
address_up None f e = absurd cc
address_up (Some a) f e = (a, refl)

no_cost_at : (router : Router) (x : Interface) (a : Address) → up_address x ≡ Some a → (area cost : Bool) → is_in_area_interface router x ≡ area →
    is_some (cost_of_interface x) ≡ cost → area ≡ true → cost ≡ false → area_address_with has_no_cost router x ≡ Some a
no_cost_at router x a up area cost is_area is_cost e f =
    ap (λ b. cond (b && has_no_cost x) (up_address x) None) (is_area ∙ e) ∙ ap (λ c. cond (not c) (up_address x) None) (is_cost ∙ f) ∙ up

pub has_cost : (n : Network) → no_cost_lines n ≡ [] → (router : Router) (x : Interface) → In n.routers router → In router.interfaces x →
    is_in_area_interface router x ≡ true → is_some (cost_of_interface x) ≡ true
unfolding no_cost_lines
has_cost n none router x at inside area = elim (bool_cases (is_some (cost_of_interface x))) [
  | inl some ↦ some
  | inr without ↦ (
      let up = address_up (up_address x) (process_has_address router.ospf) area in
      let fault = in_filter_map (area_address_with has_no_cost router) router.interfaces x up.0 inside
      (no_cost_at router x up.0 up.1 (is_in_area_interface router x) (is_some (cost_of_interface x)) refl refl area without) in
      let lines = in_map address_line (flat_map (area_addresses_with has_no_cost) n.routers) up.0
      (in_flat_map (area_addresses_with has_no_cost) n.routers router up.0 at fault) in
      absurd (none_in (map address_line (flat_map (area_addresses_with has_no_cost) n.routers)) up.0.line none lines))
]

-- ---- what is true of a checked network, though its text is not at hand

-- there is a cost, and it is at least 1
is_price : Option ℕ → Bool
is_price None = false
is_price (Some c) = nat_lt 0 c

priced : (o : Option ℕ) → is_some o ≡ true → IfSome o (λ c. 1 ≤ c) → is_price o ≡ true
unfolding is_price
priced None some positive = some
priced (Some c) some positive = grind (arith, nat_tests)

price_of : (x : Interface) (o : Option ℕ) → cost_of_interface x ≡ o → is_price o ≡ true → HasCost x
unfolding is_price
price_of x None is positive = absurd cc
price_of x (Some c) is positive = record { cost = c; is = is; positive = grind (arith, nat_tests) }

pub none_is : {X : Type 0} (o : Option X) → is_some o ≡ false → o ≡ None
none_is None e = refl
none_is (Some x) e = absurd cc

-- an OSPF network without faults that some text gives
pub is_ospf : (n : Network) → ∥ IsGiven n ∥₁ → IsFaultless n → length n.routers ≤ 4096 → protocol_of n ≡ Some protocol.Ospf → IsOspf n
is_ospf n given faultless few ospf =
    let unmixed : IsUnmixed n = λ router has. none_is router.bgp (no_bgp n ospf faultless.mixed_protocols router (in_contains n.routers router has)) in
    record {
      protocol = ospf;
      unmixed = unmixed;
      priced = λ router x has inside area. (
          let cost = has_cost n faultless.no_cost router x (in_contains n.routers router has) (in_contains router.interfaces x inside) area in
          price_of x (cost_of_interface x) refl (priced (cost_of_interface x) cost (given_costs_are_positive n given router has x inside)));
      few_routers = omega arith;
      few_links =
          let links = ap (λ (l : List Link). length l) (links_are_adjacencies n unmixed) in
          let few = few_adjacencies n faultless.too_many_links in
          omega arith;
    }

-- the protocol where the directions are those of adjacencies and there is one
pub ospf_is : (o : Option Protocol) → (o ≡ None → ⊥) → is_bgp o ≡ false → o ≡ Some protocol.Ospf
ospf_is (Some protocol.Bgp) some e = cc
ospf_is (Some protocol.Ospf) some e = cc
ospf_is None some e = absurd (some refl)
