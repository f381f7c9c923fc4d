use Rattle.std.proofs.Common.{take}
use Rattle.srp_build.specs.Lone.{AreLoneMarks}
use Rattle.srp_build.proofs.lone.marks_of.Given as goal

abbrev pub invariant-loop-edge : goal.invariant-loop-edge
invariant-loop-edge l = AreLoneMarks l.store l.acts l.count (take l.edge-index l.edges) l.marks.items
