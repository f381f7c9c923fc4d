use Rattle.policy_dd.proofs.EdgeLemmas.{kept_is}
use Rattle.policy_dd.proofs.session.kept_beyond.Goals as goal

pub returns-clause-kept : goal.returns-clause-kept
returns-clause-kept c = rw c.others_of-node.ensures (kept_is _ _ _ _ _ _ _ c.constant-always.ensures.constant c.in_ok-crossing.ensures.crossed)
