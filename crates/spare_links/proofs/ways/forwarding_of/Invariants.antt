use Rattle.std.proofs.Common.{take}
use Rattle.spare_links.specs.Ways.{AreTies, AreWays}
use Rattle.spare_links.proofs.ways.forwarding_of.Given as goal

-- the links over which routers forward, and over which routes tie, by the first edges
abbrev pub invariant-loop-edge : goal.invariant-loop-edge
invariant-loop-edge l = record {
  ways : AreWays l.srp l.labels (take l.edge-index l.edges) l.ways.items;
  ties : AreTies l.srp l.labels (take l.edge-index l.edges) l.ties l.tied;
}
