use Rattle.std.proofs.Common.{◌≡◌, ◌++◌, take, filter, map}
use Rattle.net_topology.specs.Spots.{is_later, spot_link}
use Rattle.net_topology.proofs.adjacencies.push_links.Given as goal

abbrev pub invariant-loop-q : goal.invariant-loop-q
invariant-loop-q l = l.found ≡ l.initial.found ++ map (spot_link l.p) (filter (is_later l.p) (take l.q-index l.others))
