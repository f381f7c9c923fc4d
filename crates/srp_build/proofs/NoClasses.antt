-- Without a `router` line no router originates anything, so there is no class.
use Rattle.std.proofs.Common.{◌≡◌, Bool, true, false, cond, ◌&&◌, List, [], ◌∷◌, ◌++◌, filter, filter_map, flat_map, refl, ◌∙◌, ap, subst, Option, Some, None, is_some, slice_get, nat_lt}
use Rattle.std.specs.Prelude.{Contains, find}
use Rattle.std.specs.Option.{option_map, option_map_or}
use Rattle.base_kit.specs.declared.protocol.Protocol.{Protocol}
use Rattle.base_kit.specs.Prefixes.{Prefix}
use Rattle.base_kit.proofs.Elements.{In, in_contains}
use Rattle.cfg_ast.specs.declared.bgp.BgpProcess.{BgpProcess}
use Rattle.cfg_ast.specs.declared.classes.DestClass.{DestClass}
use Rattle.cfg_ast.specs.declared.interface.Address.{Address}
use Rattle.cfg_ast.specs.declared.interface.Interface.{Interface}
use Rattle.cfg_ast.specs.declared.network.Network.{Network}
use Rattle.cfg_ast.specs.declared.network.Router.{Router}
use Rattle.cfg_ast.specs.declared.ospf.OspfProcess.{OspfProcess}
use Rattle.cfg_ast.specs.meaning.Classes.{initial_route, route_by_process, area_interface_in, is_up_in, up_subnet, originated_by, originated, classes_of}
use Rattle.cfg_ast.specs.meaning.RouterFaults.{ProtocolLine, of_bgp, of_ospf, protocol_lines_of, lines_in_order, protocol_of}
use Rattle.cfg_ast.specs.meaning.Topology.{process_has_address, up_address, cost_of_interface}
use Rattle.srp_build.specs.Laws.{NoClassWithoutProcess}

find_none : {X : Type 0} (p : X → Bool) (xs : List X) → ((x : X) → p x ≡ false) → find p xs ≡ None
find_none p [] fails = refl
find_none p (x ∷ xs) fails = rw (fails x) (find_none p xs fails)

filter_none : {X : Type 0} (p : X → Bool) (xs : List X) → ((x : X) → p x ≡ false) → filter p xs ≡ []
filter_none p [] fails = refl
filter_none p (x ∷ xs) fails = rw (fails x) (filter_none p xs fails)

-- no interface of a router without OSPF is in the area
pub outside : (o : Option OspfProcess) (a : Option Address) → o ≡ None → option_map_or (process_has_address o) a false ≡ false
outside o None none = refl
outside o (Some a) none = rw none refl

pub in_no_area : (r : Router) (p : Prefix) → r.ospf ≡ None → area_interface_in r p ≡ None
in_no_area r p none = find_none _ r.interfaces (λ x. ap (λ (b : Bool). b && is_up_in p x) (outside r.ospf (up_address x) none))

no_route : (r : Router) (p : Prefix) → r.bgp ≡ None → r.ospf ≡ None → is_some (initial_route r p) ≡ false
no_route r p no_bgp no_ospf =
    ap (λ (b : Option BgpProcess). is_some (route_by_process r b p)) no_bgp
    ∙ ap (λ (x : Option Interface). is_some (option_map cost_of_interface x)) (in_no_area r p no_ospf)

originates_nothing : (r : Router) → r.bgp ≡ None → r.ospf ≡ None → originated_by r ≡ []
originates_nothing r no_bgp no_ospf = filter_none _ (filter_map up_subnet r.interfaces) (λ p. no_route r p no_bgp no_ospf)

abbrev first_protocol : List ProtocolLine → Option Protocol
first_protocol lines = option_map (λ (l : ProtocolLine). l.protocol) (slice_get lines 0)

two_lines : (b : BgpProcess) (o : OspfProcess) (less : Bool) (more : List ProtocolLine) →
    first_protocol (cond less (of_bgp b ∷ of_ospf o ∷ []) (of_ospf o ∷ of_bgp b ∷ []) ++ more) ≡ None → ⊥
two_lines b o true more none = cc
two_lines b o false more none = cc

-- one more router, in front of others
nothing_more : (r : Router) (b : Option BgpProcess) (o : Option OspfProcess) (rs : List Router) → r.bgp ≡ b → r.ospf ≡ o
    → (first_protocol (flat_map protocol_lines_of rs) ≡ None → flat_map originated_by rs ≡ [])
    → first_protocol (lines_in_order b o ++ flat_map protocol_lines_of rs) ≡ None → originated_by r ++ flat_map originated_by rs ≡ []
nothing_more r None None rs is_bgp is_ospf more none = rw (originates_nothing r is_bgp is_ospf) (more none)
nothing_more r None (Some o) rs is_bgp is_ospf more none = cc
nothing_more r (Some b) None rs is_bgp is_ospf more none = cc
nothing_more r (Some b) (Some o) rs is_bgp is_ospf more none = absurd (two_lines b o (nat_lt b.line o.line) (flat_map protocol_lines_of rs) none)

nothing_originated : (rs : List Router) → first_protocol (flat_map protocol_lines_of rs) ≡ None → flat_map originated_by rs ≡ []
nothing_originated [] none = refl
nothing_originated (r ∷ rs) none = nothing_more r r.bgp r.ospf rs refl refl (nothing_originated rs) none

pub no_class_without_process : NoClassWithoutProcess
unfolding classes_of originated
no_class_without_process n none = rw (nothing_originated n.routers none) refl

pub no_class : (n : Network) (class : DestClass) → protocol_of n ≡ None → Contains (classes_of n) class → ⊥
no_class n class none has =
    let at : In (classes_of n) class = in_contains (classes_of n) class has in
    let P : List DestClass → Type 0 = λ l. In l class in subst P (no_class_without_process n none) at
