use Rattle.std.proofs.Common.{◌≡◌, ◌++◌, drop, flat_map}
use Rattle.std.specs.List.{enumerate_from}
use Rattle.net_topology.specs.Ups.{ups_on, ups_of}
use Rattle.net_topology.proofs.ups.all_ups.Given as goal

abbrev pub invariant-loop-r : goal.invariant-loop-r
invariant-loop-r l = l.found.items ++ flat_map ups_on (enumerate_from l.r (drop l.r l.routers)) ≡ ups_of l.routers
