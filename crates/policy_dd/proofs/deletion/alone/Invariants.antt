use Rattle.std.proofs.Common.{◌≤◌, drop, length}
use Rattle.policy_dd.specs.Deletion.{AnswersAlone}
use Rattle.policy_dd.proofs.deletion.alone.Given as goal

abbrev pub invariant-loop-place : goal.invariant-loop-place
invariant-loop-place l = record {
  below : l.place ≤ length l.lines;
  alone : AnswersAlone (drop l.place l.lines) l.answers;
}

abbrev pub decreases-loop-place : goal.decreases-loop-place
decreases-loop-place l = l.place
