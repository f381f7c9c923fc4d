use Rattle.std.proofs.Common.{◌≡◌, ◌++◌, take}
use Rattle.net_topology.proofs.network_links.append.Given as goal

abbrev pub invariant-loop-link : goal.invariant-loop-link
invariant-loop-link l = l.links ≡ l.initial.links ++ take l.link-index l.more
