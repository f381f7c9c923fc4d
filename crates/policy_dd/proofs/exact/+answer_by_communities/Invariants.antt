use Rattle.std.proofs.Common.{length}
use Rattle.policy_dd.proofs.exact.+answer_by_communities.Given as goal

abbrev pub decreases-answer_by_communities : goal.decreases-answer_by_communities
decreases-answer_by_communities l = length l.conditions.now
