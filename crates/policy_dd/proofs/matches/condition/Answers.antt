use Rattle.std.proofs.Common.{sym, ◌≡◌, Some, None}
use Rattle.dd_core.proofs.ShownLemmas.{grows_inside, grows_trans}
use Rattle.policy_dd.specs.Tables.{node_at}
use Rattle.policy_dd.proofs.MatchLemmas.{condition_own, condition_rest}
use Rattle.policy_dd.proofs.matches.condition.Goals as goal

pub returns-in-Some-clause-condition : goal.returns-in-Some-clause-condition
returns-in-Some-clause-condition c =
    let at : node_at c.args.carried.now.outs c.args.community ≡ Some c.in-Some.node = rw (← c.as_slice.ensures) (sym c.in-Some.ensures) in
    condition_own _ _ _ _ c.requires.inside at

pub returns-in_ok-node-in-None-clause-condition : goal.returns-in_ok-node-in-None-clause-condition
returns-in_ok-node-in-None-clause-condition c =
    let at : node_at c.args.carried.now.outs c.args.community ≡ None = rw (← c.as_slice.ensures) (sym c.in-None.ensures) in
    condition_rest _ _ _ _ _ _ _ c.requires.inside c.in_ok-there-in-None.ensures.grows at c.in_ok-there-in-None.ensures.var c.in_ok-node-in-None.ensures.and

pub and-requires-clause-b_inside : goal.and-requires-clause-b_inside
and-requires-clause-b_inside c = grows_inside _ _ _ c.in_ok-there-in-None.ensures.grows c.requires.inside.rest

pub returns-in_err-node-in-None-clause-grows : goal.returns-in_err-node-in-None-clause-grows
returns-in_err-node-in-None-clause-grows c = grows_trans _ _ _ c.in_ok-there-in-None.ensures.grows c.in_err-node-in-None.ensures.grows

pub returns-in_ok-node-in-None-clause-grows : goal.returns-in_ok-node-in-None-clause-grows
returns-in_ok-node-in-None-clause-grows c = grows_trans _ _ _ c.in_ok-there-in-None.ensures.grows c.in_ok-node-in-None.ensures.grows
