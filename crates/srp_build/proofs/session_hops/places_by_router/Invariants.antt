use Rattle.std.proofs.Common.{take}
use Rattle.srp_build.specs.ListPlaces.{HavePlaces}
use Rattle.srp_build.proofs.session_hops.places_by_router.Given as goal

abbrev pub invariant-loop-router : goal.invariant-loop-router
invariant-loop-router l = HavePlaces (take l.router-index l.routers) l.places.items
