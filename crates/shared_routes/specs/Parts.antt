-- The parts of a route.
use Rattle.srp_core.specs.declared.route.Route.{Route}
use Rattle.srp_core.specs.declared.route.Route.TheVariants.{Bgp, Ospf}
use Rattle.shared_routes.specs.declared.routes.RouteParts.{RouteParts}
use Rattle.shared_routes.specs.declared.routes.RouteParts.TheVariants as parts

-- the route of these parts
abbrev pub route_of : RouteParts → Route
route_of (parts.Bgp lp path comms) = Bgp lp path comms
route_of (parts.Ospf cost) = Ospf cost
