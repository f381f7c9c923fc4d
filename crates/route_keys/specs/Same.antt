-- Equal routes.
use Rattle.std.specs.Prelude.{Bool, false, ◌&&◌, nat_eq, bytes_eq}
use Rattle.srp_core.specs.declared.route.Route.{Route}
use Rattle.srp_core.specs.declared.route.Route.TheVariants.{Bgp, Ospf}

-- whether two routes are equal
abbrev pub same_route : Route → Route → Bool
same_route (Bgp lp path comms) (Bgp lp' path' comms') = nat_eq lp lp' && (bytes_eq path path' && bytes_eq comms comms')
same_route (Bgp lp path comms) (Ospf cost) = false
same_route (Ospf cost) (Bgp lp path comms) = false
same_route (Ospf cost) (Ospf cost') = nat_eq cost cost'
