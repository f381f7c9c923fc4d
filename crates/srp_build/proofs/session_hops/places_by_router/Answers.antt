use Rattle.std.proofs.Common.{◌+◌, List, take, sym, subst}
use Rattle.specialize.specs.declared.places.Places.{Places}
use Rattle.srp_build.specs.ListPlaces.{HavePlaces}
use Rattle.srp_build.proofs.ListPlaces.{places_next}
use Rattle.srp_build.proofs.session_hops.places_by_router.Goals as goal

pub loop-router-preserved : goal.loop-router-preserved
loop-router-preserved c =
    let routers = c.args.routers.now in
    let i = c.loop-router.router-index in
    let router = c.router-item.result in
    subst (λ (l : List Places). HavePlaces (take (i + 1) routers) l) (sym c.in_ok-push.ensures.items)
    (places_next routers i router router c.loop-router.places.items c.in_ok-places_of.field-0 c.loop-router-test.true (sym c.router-item.is)
    c.loop-router.invariant c.in_ok-places_of.ensures)
