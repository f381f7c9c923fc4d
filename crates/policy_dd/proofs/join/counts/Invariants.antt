use Rattle.std.proofs.Common.{◌≡◌, take}
use Rattle.policy_dd.proofs.join.counts.Given as goal

abbrev pub invariant-loop-case : goal.invariant-loop-case
invariant-loop-case l = l.counts ≡ take l.case-index l.cases
