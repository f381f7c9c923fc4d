use Rattle.cfg_check.proofs.Faultless.{few_routers}
use Rattle.net_topology.proofs.FewPlaces.{few_places}
use Rattle.net_topology.proofs.places.places_are_few.Goals as goal

pub returns : goal.returns
returns c =
    let n = c.args.net.now.network in
    few_places n (few_routers n c.args.net.now.faultless) (c.given_places_are_in_order.ensures n c.args.net.now.given)
