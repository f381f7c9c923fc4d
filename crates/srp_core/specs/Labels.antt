-- What the labels of a problem keep.
use Rattle.std.specs.Prelude.{Option, Some, None}
use Rattle.base_kit.specs.Sets.{IsAscending}
use Rattle.srp_core.specs.declared.route.Route.{Route}
use Rattle.srp_core.specs.declared.route.Route.TheVariants.{Bgp, Ospf}

-- the communities of the route, if there is one, are a set
abbrev pub HasSet : Option Route → Type 0
HasSet None = Unit {0}
HasSet (Some (Ospf cost)) = Unit {0}
HasSet (Some (Bgp lp path comms)) = IsAscending comms
