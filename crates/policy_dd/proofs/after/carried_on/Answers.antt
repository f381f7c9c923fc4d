use Rattle.std.proofs.Common.{◌≡◌, Some, None, sym}
use Rattle.dd_core.proofs.ShownLemmas.{grows_inside, grows_trans}
use Rattle.policy_dd.specs.Tables.{node_at}
use Rattle.policy_dd.proofs.TableLemmas.{case_inside}
use Rattle.policy_dd.proofs.RunLemmas.{map_inside_kept}
use Rattle.policy_dd.proofs.AfterLemmas.{carried_put, carried_kept}
use Rattle.policy_dd.proofs.after.carried_on.Goals as goal

pub stays-requires : goal.stays-requires
stays-requires c = map_inside_kept _ _ _ c.in_ok-there.ensures.grows c.requires.map_inside

pub or-requires-clause-a_inside : goal.or-requires-clause-a_inside
or-requires-clause-a_inside c =
    let at : node_at c.args.m.now.present c.args.community ≡ Some c.in-Some.put = rw (← c.as_slice.ensures) (sym c.in-Some.ensures) in
    grows_inside _ _ _ (grows_trans _ _ _ (grows_trans _ _ _ c.in_ok-there.ensures.grows c.in_ok-stays.ensures.grows) c.in_ok-kept.ensures.grows)
    (case_inside c.args.store.now c.args.m.now.present c.args.community c.in-Some.put c.requires.map_inside.present at)

pub returns-in_ok-node-in-Some-clause-carries : goal.returns-in_ok-node-in-Some-clause-carries
returns-in_ok-node-in-Some-clause-carries c =
    let at : node_at c.args.m.now.present c.args.community ≡ Some c.in-Some.put = rw (← c.as_slice.ensures) (sym c.in-Some.ensures) in
    carried_put _ _ _ _ _ c.args.carried.now c.args.m.now _ _ _ _ _ _ c.in_ok-there.ensures.grows c.in_ok-stays.ensures.grows c.in_ok-kept.ensures.grows
    c.requires.map_inside (case_inside c.args.store.now c.args.m.now.present c.args.community c.in-Some.put c.requires.map_inside.present at) at
    c.in_ok-there.ensures.condition c.in_ok-stays.ensures.stays c.in_ok-kept.ensures.and c.in_ok-node-in-Some.ensures.or

pub returns-in-None-clause-carries : goal.returns-in-None-clause-carries
returns-in-None-clause-carries c =
    let at : node_at c.args.m.now.present c.args.community ≡ None = rw (← c.as_slice.ensures) (sym c.in-None.ensures) in
    carried_kept _ _ _ _ c.args.carried.now c.args.m.now _ _ _ _ c.in_ok-there.ensures.grows c.in_ok-stays.ensures.grows c.requires.map_inside at
    c.in_ok-there.ensures.condition c.in_ok-stays.ensures.stays c.in_ok-kept.ensures.and

pub and-requires-clause-a_inside : goal.and-requires-clause-a_inside
and-requires-clause-a_inside c = grows_inside _ _ _ c.in_ok-stays.ensures.grows c.in_ok-there.ensures.condition.inside

pub returns-in_err-stays-clause-grows : goal.returns-in_err-stays-clause-grows
returns-in_err-stays-clause-grows c = grows_trans _ _ _ c.in_ok-there.ensures.grows c.in_err-stays.ensures.grows

pub returns-in_err-kept-clause-grows : goal.returns-in_err-kept-clause-grows
returns-in_err-kept-clause-grows c = grows_trans _ _ _ (grows_trans _ _ _ c.in_ok-there.ensures.grows c.in_ok-stays.ensures.grows) c.in_err-kept.ensures.grows

pub returns-in_err-node-in-Some-clause-grows : goal.returns-in_err-node-in-Some-clause-grows
returns-in_err-node-in-Some-clause-grows c = grows_trans _ _ _
    (grows_trans _ _ _ (grows_trans _ _ _ c.in_ok-there.ensures.grows c.in_ok-stays.ensures.grows) c.in_ok-kept.ensures.grows)
    c.in_err-node-in-Some.ensures.grows

pub returns-in_ok-node-in-Some-clause-grows : goal.returns-in_ok-node-in-Some-clause-grows
returns-in_ok-node-in-Some-clause-grows c = grows_trans _ _ _
    (grows_trans _ _ _ (grows_trans _ _ _ c.in_ok-there.ensures.grows c.in_ok-stays.ensures.grows) c.in_ok-kept.ensures.grows)
    c.in_ok-node-in-Some.ensures.grows

pub returns-in-None-clause-grows : goal.returns-in-None-clause-grows
returns-in-None-clause-grows c = grows_trans _ _ _ (grows_trans _ _ _ c.in_ok-there.ensures.grows c.in_ok-stays.ensures.grows) c.in_ok-kept.ensures.grows
