use Rattle.std.proofs.Common.{◌≡◌, ◌++◌, drop}
use Rattle.canon_policy.proofs.problem.starts_copy.Given as goal

abbrev pub invariant-loop-start : goal.invariant-loop-start
invariant-loop-start l = l.copies ++ drop l.start-index l.starts ≡ l.starts
