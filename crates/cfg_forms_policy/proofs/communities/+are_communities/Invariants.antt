use Rattle.std.proofs.Common.{length}
use Rattle.cfg_forms_policy.proofs.communities.+are_communities.Given as goal

abbrev pub decreases-are_communities : goal.decreases-are_communities
decreases-are_communities l = length l.words.now
