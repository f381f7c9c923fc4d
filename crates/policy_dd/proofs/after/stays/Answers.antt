use Rattle.std.proofs.Common.{◌≡◌, Some, None, sym}
use Rattle.dd_core.proofs.ShownLemmas.{grows_inside, grows_trans}
use Rattle.policy_dd.specs.Tables.{node_at}
use Rattle.policy_dd.proofs.TableLemmas.{case_inside}
use Rattle.policy_dd.proofs.AfterLemmas.{stays_odd, stays_rest}
use Rattle.policy_dd.proofs.after.stays.Goals as goal

pub ite-requires-clause-a_inside : goal.ite-requires-clause-a_inside
ite-requires-clause-a_inside c =
    let at : node_at c.args.m.now.odd c.args.community ≡ Some c.in-Some.odd = rw (← c.as_slice.ensures) (sym c.in-Some.ensures) in
    grows_inside _ _ _ c.in_ok-gone-in-Some.ensures.grows (case_inside c.args.store.now c.args.m.now.odd c.args.community c.in-Some.odd c.requires.odd at)

pub ite-requires-clause-c_inside : goal.ite-requires-clause-c_inside
ite-requires-clause-c_inside c = grows_inside _ _ _ c.in_ok-gone-in-Some.ensures.grows c.requires.rest

pub returns-in_ok-node-in-Some-clause-stays : goal.returns-in_ok-node-in-Some-clause-stays
returns-in_ok-node-in-Some-clause-stays c =
    let at : node_at c.args.m.now.odd c.args.community ≡ Some c.in-Some.odd = rw (← c.as_slice.ensures) (sym c.in-Some.ensures) in
    stays_odd _ _ _ _ _ _ _ _ c.in_ok-gone-in-Some.ensures.grows c.requires
    (case_inside c.args.store.now c.args.m.now.odd c.args.community c.in-Some.odd c.requires.odd at) at c.in_ok-gone-in-Some.ensures.not
    c.in_ok-node-in-Some.ensures.ite

pub returns-in-None-clause-stays : goal.returns-in-None-clause-stays
returns-in-None-clause-stays c =
    let at : node_at c.args.m.now.odd c.args.community ≡ None = rw (← c.as_slice.ensures) (sym c.in-None.ensures) in
    stays_rest _ _ _ c.requires at

pub returns-in_err-node-in-Some-clause-grows : goal.returns-in_err-node-in-Some-clause-grows
returns-in_err-node-in-Some-clause-grows c = grows_trans _ _ _ c.in_ok-gone-in-Some.ensures.grows c.in_err-node-in-Some.ensures.grows

pub returns-in_ok-node-in-Some-clause-grows : goal.returns-in_ok-node-in-Some-clause-grows
returns-in_ok-node-in-Some-clause-grows c = grows_trans _ _ _ c.in_ok-gone-in-Some.ensures.grows c.in_ok-node-in-Some.ensures.grows
