use Rattle.std.proofs.Common.{◌≡◌, ◌++◌, drop, map}
use Rattle.srp_build.specs.declared.lone.Mark.{Mark}
use Rattle.srp_build.proofs.lone.read_marks.Given as goal

abbrev pub invariant-loop-mark : goal.invariant-loop-mark
invariant-loop-mark l = l.lone ++ map (λ (mark : Mark). mark.lone) (drop l.mark-index l.marks) ≡ map (λ (mark : Mark). mark.lone) l.marks
