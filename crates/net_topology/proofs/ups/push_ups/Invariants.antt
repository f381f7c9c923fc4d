use Rattle.std.proofs.Common.{◌≡◌, ◌++◌, drop, filter_map}
use Rattle.net_topology.specs.Ups.{up_on}
use Rattle.net_topology.proofs.ups.push_ups.Given as goal

abbrev pub invariant-loop-interface : goal.invariant-loop-interface
invariant-loop-interface l = l.found.items ++ filter_map (up_on l.router) (drop l.interface-index l.interfaces) ≡ l.initial.found.items
    ++ filter_map (up_on l.router) l.interfaces
