-- Initial routes of BGP routers.
use Rattle.std.proofs.Common.{◌≡◌, Bool, true, false, cond, [], Option, Some, None, refl, sym, ap}
use Rattle.std.specs.Option.{option_map}
use Rattle.base_kit.specs.Prefixes.{Prefix}
use Rattle.base_kit.proofs.Elements.{In, contains_in}
use Rattle.cfg_ast.specs.declared.bgp.BgpProcess.{BgpProcess}
use Rattle.cfg_ast.specs.declared.interface.Interface.{Interface}
use Rattle.cfg_ast.specs.declared.network.Network.{Network}
use Rattle.cfg_ast.specs.declared.network.Router.{Router}
use Rattle.cfg_ast.specs.meaning.Classes.{area_interface_in, route_by_process, is_announced}
use Rattle.cfg_ast.specs.meaning.Policy.{default_preference}
use Rattle.cfg_ast.specs.meaning.Topology.{cost_of_interface}
use Rattle.srp_core.specs.declared.route.Route.{Route}
use Rattle.srp_core.specs.declared.route.Route.TheVariants.{Bgp}
use Rattle.srp_core.specs.ProblemOf.{route_from, start_route}
use Rattle.srp_build.specs.Bgp.{IsBgp}
use Rattle.srp_build.proofs.BgpLinks.{HasProcess}
use Rattle.srp_build.proofs.NoClasses.{in_no_area}

-- the default preference, no path and no communities, at a router with a BGP process
pub record IsBgpStart (router : Router) (route : Route) : Type 0 where
  pub has : HasProcess router
  pub is : route ≡ Bgp (default_preference router) [] []

announced : (router : Router) (process : BgpProcess) (route : Route) (b : Bool) → router.bgp ≡ Some process →
    option_map (route_from router) (cond b (Some None) None) ≡ Some route → IsBgpStart router route
announced router process route true is h =
    record { has = record { process = process; is = is }; is = (let same : Bgp (default_preference router) [] [] ≡ route = cc in sym same) }
announced router process route false is h = absurd cc

start_by : (router : Router) (p : Prefix) (route : Route) (o : Option BgpProcess) → router.ospf ≡ None → router.bgp ≡ o →
    option_map (route_from router) (route_by_process router o p) ≡ Some route → IsBgpStart router route
start_by router p route (Some process) none is h = announced router process route (is_announced router process p) is h
start_by router p route None none is h =
    let nothing : option_map (route_from router) (option_map cost_of_interface (area_interface_in router p)) ≡ None =
    ap (λ (x : Option Interface). option_map (route_from router) (option_map cost_of_interface x)) (in_no_area router p none) in
    absurd cc

pub start_is_bgp : (n : Network) → IsBgp n → (router : Router) → In n.routers router → (p : Prefix) (route : Route) → start_route p router ≡ Some route →
    IsBgpStart router route
start_is_bgp n bgp router at p route h = start_by router p route router.bgp (bgp.without_ospf router (contains_in n.routers router at)) refl h
