use Rattle.std.proofs.Common.{length}
use Rattle.policy_dd.proofs.matches.+decision_of.Given as goal

abbrev pub decreases-decision_of : goal.decreases-decision_of
decreases-decision_of l = length l.lines.now
