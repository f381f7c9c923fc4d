use Rattle.srp_without.proofs.Keys.{act_said, cost_said}
use Rattle.srp_without.proofs.accepted.accepted_by.Goals as goal

pub returns-in_ok-function-in-Import-clause-accepted : goal.returns-in_ok-function-in-Import-clause-accepted
returns-in_ok-function-in-Import-clause-accepted c =
    act_said c.args.act.now c.edge_fn.new.store c.in_ok-function-in-Import.function c.in-Import.out c.in-Import.sends c.in-Import.into c.in-Import.is
    c.in_ok-function-in-Import.ensures.edge c.as_slice.result.now c.as_slice.ensures c.accepted_of-accepted.result c.accepted_of-accepted.ensures

pub returns-in-Cost-clause-accepted : goal.returns-in-Cost-clause-accepted
returns-in-Cost-clause-accepted c = cost_said c.args.act.now _ c.in-Cost.is
