use Rattle.policy_dd.proofs.MatchLemmas.{without_is}
use Rattle.policy_dd.proofs.matches.without.Goals as goal

pub returns-clause-without : goal.returns-clause-without
returns-clause-without c = without_is _ _ _ _ _ _ c.constant-never.ensures.constant c.in_ok-node.ensures.ite
