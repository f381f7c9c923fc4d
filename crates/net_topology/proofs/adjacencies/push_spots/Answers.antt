use Rattle.std.proofs.Common.{◌≡◌, ◌++◌, List, OnOk, filter_map, map, subst}
use Rattle.std.specs.List.{enumerate_from}
use Rattle.cfg_ast.specs.declared.interface.Interface.{Interface}
use Rattle.cfg_ast.specs.declared.network.Router.{Router}
use Rattle.cfg_ast.specs.meaning.Topology.{place_on}
use Rattle.net_topology.specs.Spots.{spot_of}
use Rattle.net_topology.proofs.adjacencies.push_spots.Goals as goal

pub returns : goal.returns
returns c =
    subst (λ (xs : List Interface). OnOk c.push_spots_in.result
    (c.push_spots_in.new.found.items ≡ c.args.found.now.items ++ filter_map spot_of (map (place_on c.args.router c.args.owner.now) (enumerate_from 0 xs))))
    c.as_slice.ensures
    (subst (λ (owner : Router). OnOk c.push_spots_in.result (c.push_spots_in.new.found.items ≡ c.args.found.now.items
    ++ filter_map spot_of (map (place_on c.args.router owner) (enumerate_from 0 c.as_slice.result.now)))) c.in_ok-index.ensures c.push_spots_in.ensures)
