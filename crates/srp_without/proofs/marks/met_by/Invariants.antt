use Rattle.std.proofs.Common.{◌≡◌, List, length, take}
use Rattle.srp_core.specs.declared.route.Act.{Act}
use Rattle.srp_without.specs.Accepting.{AreOfActs, AreMet}
use Rattle.srp_without.proofs.marks.met_by.Given as goal

abbrev pub invariant-loop-edge : goal.invariant-loop-edge
invariant-loop-edge l = record {
  total : length l.met.items ≡ l.count;
  met : (acts : List Act) → AreOfActs acts l.accepted → AreMet acts l.count (take l.edge-index l.edges) l.met.items;
}
