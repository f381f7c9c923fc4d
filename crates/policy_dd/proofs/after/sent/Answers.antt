use Rattle.policy_dd.proofs.AfterLemmas.{sent_all, sent_none}
use Rattle.policy_dd.proofs.after.sent.Goals as goal

pub returns-then-sends-clause-sent : goal.returns-then-sends-clause-sent
returns-then-sends-clause-sent c = sent_all _ _ _ _ _ _ c.if-sends.true c.in_ok-all.ensures.after

pub returns-clause-sent : goal.returns-clause-sent
returns-clause-sent c = rw c.new.ensures (sent_none _ _ _ _ _ c.if-sends.false c.constant-never.ensures.constant)
