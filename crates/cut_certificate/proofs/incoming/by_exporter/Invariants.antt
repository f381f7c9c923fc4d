use Rattle.std.proofs.Common.{◌≡◌, length, take}
use Rattle.cut_certificate.specs.Moves.{HasIncoming}
use Rattle.cut_certificate.proofs.incoming.by_exporter.Given as goal

abbrev pub invariant-loop-edge : goal.invariant-loop-edge
invariant-loop-edge l = record {
  total : length l.lists.items ≡ l.graph.count;
  place : l.place ≡ l.edge-index;
  index : HasIncoming (take l.edge-index l.graph.edges) l.lists.items;
}
