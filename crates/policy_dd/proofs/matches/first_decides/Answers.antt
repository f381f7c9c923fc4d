use Rattle.dd_core.proofs.ShownLemmas.{grows_inside, grows_trans}
use Rattle.policy_dd.proofs.DecideLemmas.{first_decision}
use Rattle.policy_dd.proofs.matches.first_decides.Goals as goal

pub returns-clause-joined : goal.returns-clause-joined
returns-clause-joined c = first_decision c.args.store.now c.or.new.self c.ite.new.self c.args.first.now c.args.last.now _ _ c.in_ok-holds.ensures.grows
    c.in_ok-permits.ensures.grows c.requires.first_inside c.requires.last_inside c.in_ok-holds.ensures.or c.in_ok-permits.ensures.ite

pub ite-requires-clause-a_inside : goal.ite-requires-clause-a_inside
ite-requires-clause-a_inside c = grows_inside _ _ _ c.in_ok-holds.ensures.grows c.requires.first_inside.holds

pub ite-requires-clause-b_inside : goal.ite-requires-clause-b_inside
ite-requires-clause-b_inside c = grows_inside _ _ _ c.in_ok-holds.ensures.grows c.requires.first_inside.permits

pub ite-requires-clause-c_inside : goal.ite-requires-clause-c_inside
ite-requires-clause-c_inside c = grows_inside _ _ _ c.in_ok-holds.ensures.grows c.requires.last_inside.permits

pub returns-in_err-permits-clause-grows : goal.returns-in_err-permits-clause-grows
returns-in_err-permits-clause-grows c = grows_trans _ _ _ c.in_ok-holds.ensures.grows c.in_err-permits.ensures.grows

pub returns-clause-grows : goal.returns-clause-grows
returns-clause-grows c = grows_trans _ _ _ c.in_ok-holds.ensures.grows c.in_ok-permits.ensures.grows
