use Rattle.cfg_check.proofs.FewCommunities.{few_communities}
use Rattle.cfg_check.proofs.laws.few_communities.Goals as goal

pub returns : goal.returns
returns c = few_communities
