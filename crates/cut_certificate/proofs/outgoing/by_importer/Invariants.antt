use Rattle.std.proofs.Common.{◌≡◌, length, take}
use Rattle.cut_certificate.specs.Outgoing.{AreByImporter}
use Rattle.cut_certificate.proofs.outgoing.by_importer.Given as goal

abbrev pub invariant-loop-edge : goal.invariant-loop-edge
invariant-loop-edge l = record {
  total : length l.lists.items ≡ l.graph.count;
  place : l.place ≡ l.edge-index;
  index : AreByImporter (take l.edge-index l.graph.edges) l.lists.items;
}
