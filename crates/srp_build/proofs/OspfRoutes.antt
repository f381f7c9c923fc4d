-- Initial routes of OSPF routers, costs of interfaces, and lists of marks.
use Rattle.std.proofs.Common.{◌≡◌, ℕ, zero, suc, Bool, true, false, cond, ◌&&◌, List, [], ◌∷◌, map, Option, Some, None, refl, sym, ◌∙◌, ap, subst, inl, inr}
use Rattle.std.specs.Prelude.{find, slice_index_or, option_and_then}
use Rattle.std.specs.Option.{option_map, unwrap_or}
use Rattle.base_kit.specs.declared.protocol.Protocol.{Protocol}
use Rattle.base_kit.specs.declared.protocol.Protocol.TheVariants.{Bgp as OverBgp, Ospf as OverOspf}
use Rattle.base_kit.specs.Prefixes.{Prefix}
use Rattle.base_kit.proofs.Elements.{In, contains_in}
use Rattle.cfg_ast.specs.declared.bgp.BgpProcess.{BgpProcess}
use Rattle.cfg_ast.specs.declared.interface.Interface.{Interface}
use Rattle.cfg_ast.specs.declared.network.Network.{Network}
use Rattle.cfg_ast.specs.declared.network.Router.{Router}
use Rattle.cfg_ast.specs.meaning.Classes.{area_interface_in, is_up_in, route_by_process as origin_from}
use Rattle.cfg_ast.specs.meaning.Topology.{is_in_area_interface, cost_of_interface, cost_of}
use Rattle.srp_core.specs.declared.route.Route.{Route}
use Rattle.srp_core.specs.declared.route.Route.TheVariants.{Ospf}
use Rattle.srp_core.specs.Problem.{Problem, initial, HasStarts}
use Rattle.srp_core.specs.ProblemOf.{route_from, start_route}
use Rattle.srp_core.specs.Routes.{path_of, comms_of, IsRouteOf}
use Rattle.srp_build.specs.Costs.{cost_at}
use Rattle.srp_build.specs.Ospf.{IsOspf, IsPriced}
use Rattle.srp_build.specs.Starts.{none_lone}

found_step : {X : Type 0} (p : X → Bool) (y : X) (ys : List X) (x : X) (b : Bool) → p y ≡ b → (find p ys ≡ Some x → In ys x × (p x ≡ true)) →
    cond b (Some y) (find p ys) ≡ Some x → In (y ∷ ys) x × (p x ≡ true)
found_step p y ys x true e rest h = (inl cc, ap p (let same : x ≡ y = cc in same) ∙ e)
found_step p y ys x false e rest h = let r = rest h in (inr r.0, r.1)

pub found : {X : Type 0} (p : X → Bool) (xs : List X) (x : X) → find p xs ≡ Some x → In xs x × (p x ≡ true)
found p [] x h = absurd cc
found p (y ∷ ys) x h = found_step p y ys x (p y) refl (found p ys x) h

and_first : (a b : Bool) → (a && b) ≡ true → a ≡ true
and_first true b h = refl
and_first false b h = absurd cc

-- a route that is the cost of an interface
record IsCostRoute (route : Route) : Type 0 where
  pub cost : ℕ
  pub is : route ≡ Ospf cost

route_of_cost : (router : Router) (o : Option ℕ) (c : ℕ) (route : Route) → o ≡ Some c → route_from router o ≡ route → IsCostRoute route
route_of_cost router None c route e h = absurd cc
route_of_cost router (Some cost) c route e h = record { cost = cost; is = sym h }

start_of : (n : Network) → IsOspf n → (router : Router) → In n.routers router → (p : Prefix) (route : Route) (o : Option Interface) →
    area_interface_in router p ≡ o → option_map (route_from router) (option_map cost_of_interface o) ≡ Some route → IsCostRoute route
start_of n ospf router at p route None e h = absurd cc
start_of n ospf router at p route (Some x) e h =
    let f = found (λ (y : Interface). is_in_area_interface router y && is_up_in p y) router.interfaces x e in
    let has = ospf.priced router x (contains_in n.routers router at) (contains_in router.interfaces x f.0)
    (and_first (is_in_area_interface router x) (is_up_in p x) f.1) in
    route_of_cost router (cost_of_interface x) has.cost route has.is (let same : route_from router (cost_of_interface x) ≡ route = cc in same)

-- an initial route of an OSPF network is a cost
start_is_cost : (n : Network) → IsOspf n → (router : Router) → In n.routers router → (p : Prefix) (route : Route) → start_route p router ≡ Some route →
    IsCostRoute route
start_is_cost n ospf router at p route h =
    let none = ospf.unmixed router (contains_in n.routers router at) in
    let plain : start_route p router ≡ option_map (route_from router) (option_map cost_of_interface (area_interface_in router p)) =
    ap (λ (b : Option BgpProcess). option_map (route_from router) (origin_from router b p)) none in
    start_of n ospf router at p route (area_interface_in router p) refl (sym plain ∙ h)

-- an initial route stands at a router that has it
record IsStartOf (p : Prefix) (routers : List Router) (route : Route) : Type 0 where
  pub router : Router
  pub router_in : In routers router
  pub is : start_route p router ≡ Some route

start_at : (p : Prefix) (routers : List Router) (u : ℕ) (route : Route) → slice_index_or (map (start_route p) routers) u None ≡ Some route →
    IsStartOf p routers route
start_at p [] u route h = absurd cc
start_at p (router ∷ routers) zero route h = record { router = router; router_in = inl refl; is = h }
start_at p (router ∷ routers) (suc u) route h = let r = start_at p routers u route h in record { router = r.router; router_in = inr r.router_in; is = r.is }

-- the initial routes of an OSPF problem are costs
pub has_starts : (n : Network) → IsOspf n → (p : Prefix) (problem : Problem) → problem.protocol ≡ OverOspf → problem.init ≡ map (start_route p) n.routers →
    HasStarts problem
has_starts n ospf p problem over starts = record {
  routes = λ u r h. subst (λ (q : Protocol). IsRouteOf q r) (sym over) (subst (λ (x : Route). IsRouteOf OverOspf x) (sym (start_cost u r h).is) tt);
  paths = λ u r h. ap path_of (start_cost u r h).is;
  bare = λ u r h. ap comms_of (start_cost u r h).is;
  unoriginated = λ e edge has. (let both : OverOspf ≡ OverBgp = sym over ∙ e in absurd cc);
} where
  start_cost : (u : ℕ) (r : Route) → initial problem u ≡ Some r → IsCostRoute r
  start_cost u r h =
      let s = start_at p n.routers u r (sym (ap (λ (l : List (Option Route)). slice_index_or l u None) starts) ∙ h) in
      start_is_cost n ospf s.router s.router_in p r s.is

pub none_marked : (routers : List Router) (u : ℕ) → slice_index_or (none_lone routers) u false ≡ false
none_marked [] u = refl
none_marked (router ∷ routers) zero = refl
none_marked (router ∷ routers) (suc u) = none_marked routers u

pub priced_cost : (n : Network) (place item cost : ℕ) → IsPriced n place item cost → cost_at n.routers place item ≡ cost
priced_cost n place item cost priced = ap (λ (o : Option Router). unwrap_or (option_and_then (λ (r : Router). cost_of r item) o) 0) priced.at
    ∙ ap (λ (o : Option ℕ). unwrap_or o 0) priced.is
