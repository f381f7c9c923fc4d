use Rattle.std.proofs.Common.{◌≡◌, Some, None, sym}
use Rattle.policy_dd.specs.Tables.{node_at}
use Rattle.policy_dd.proofs.TableLemmas.{case_inside, more_new, more_joined}
use Rattle.policy_dd.proofs.tables.or_into.Goals as goal

pub or-requires-clause-a_inside : goal.or-requires-clause-a_inside
or-requires-clause-a_inside c =
    let at : node_at c.args.cases c.args.key ≡ Some c.in-Some.old = rw (← c.as_slice.ensures) (sym c.in-Some.ensures) in
    case_inside c.args.store.now c.args.cases c.args.key c.in-Some.old c.requires.inside at

pub returns-in_ok-more-in-Some-clause-more : goal.returns-in_ok-more-in-Some-clause-more
returns-in_ok-more-in-Some-clause-more c =
    let at : node_at c.args.cases c.args.key ≡ Some c.in-Some.old = rw (← c.as_slice.ensures) (sym c.in-Some.ensures) in
    rw c.in_ok-more-in-Some.ensures (more_joined c.args.store.now c.or.new.self c.args.cases c.args.key c.in-Some.old c.args.node c.in_ok-both-in-Some.both
    c.in_ok-both-in-Some.ensures.grows c.requires.inside at c.in_ok-both-in-Some.ensures.or)

pub returns-in_ok-more-in-None-clause-more : goal.returns-in_ok-more-in-None-clause-more
returns-in_ok-more-in-None-clause-more c =
    let at : node_at c.args.cases c.args.key ≡ None = rw (← c.as_slice.ensures) (sym c.in-None.ensures) in
    rw c.in_ok-more-in-None.ensures (more_new c.args.store.now c.args.cases c.args.key c.args.node c.requires.inside c.requires.node_inside at)
