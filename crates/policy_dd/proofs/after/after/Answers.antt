use Rattle.std.proofs.Common.{List, ℕ, subst}
use Rattle.dd_core.proofs.ShownLemmas.{grows_inside, grows_trans}
use Rattle.policy_dd.specs.After.{carries_on}
use Rattle.policy_dd.specs.Tables.{IsTabled}
use Rattle.policy_dd.proofs.AfterLemmas.{touched_within, after_is}
use Rattle.policy_dd.proofs.after.after.Goals as goal

pub carried_outs-requires-clause-known : goal.carried_outs-requires-clause-known
carried_outs-requires-clause-known c = rw c.as_slice.ensures.all
    (touched_within c.args.store.now c.args.carried.now c.args.m.now c.in_ok-keys.keys c.requires.inside c.requires.map_inside c.in_ok-keys.ensures)

pub and-requires-clause-a_inside : goal.and-requires-clause-a_inside
and-requires-clause-a_inside c = grows_inside _ _ _ c.in_ok-outs.ensures.grows c.requires.inside.rest

pub and-requires-clause-b_inside : goal.and-requires-clause-b_inside
and-requires-clause-b_inside c = grows_inside _ _ _ c.in_ok-outs.ensures.grows c.requires.map_inside.rest

pub and-requires-2-clause-a_inside : goal.and-requires-2-clause-a_inside
and-requires-2-clause-a_inside c = grows_inside _ _ _ (grows_trans _ _ _ c.in_ok-outs.ensures.grows c.in_ok-rest.ensures.grows) c.requires.inside.others

pub and-requires-2-clause-b_inside : goal.and-requires-2-clause-b_inside
and-requires-2-clause-b_inside c = grows_inside _ _ _ (grows_trans _ _ _ c.in_ok-outs.ensures.grows c.in_ok-rest.ensures.grows) c.requires.map_inside.rest

pub returns-clause-after : goal.returns-clause-after
returns-clause-after c =
    let tabled : IsTabled c.carried_outs.new.store (λ k set. carries_on c.args.store.now c.args.carried.now c.args.m.now set k) c.in_ok-keys.keys
    c.in_ok-outs.outs =
    subst (λ (l : List ℕ). IsTabled c.carried_outs.new.store (λ k set. carries_on c.args.store.now c.args.carried.now c.args.m.now set k) l c.in_ok-outs.outs)
    c.as_slice.ensures.all c.in_ok-outs.ensures.outs in
    after_is c.args.store.now c.carried_outs.new.store c.and.new.self c.and-2.new.self c.args.carried.now c.args.m.now c.in_ok-keys.keys c.in_ok-outs.outs
    c.in_ok-rest.rest c.in_ok-others.others c.in_ok-outs.ensures.grows c.in_ok-rest.ensures.grows c.in_ok-others.ensures.grows c.requires.inside
    c.requires.map_inside c.in_ok-keys.ensures tabled c.in_ok-rest.ensures.and c.in_ok-others.ensures.and

pub returns-in_err-rest-clause-grows : goal.returns-in_err-rest-clause-grows
returns-in_err-rest-clause-grows c = grows_trans _ _ _ c.in_ok-outs.ensures.grows c.in_err-rest.ensures.grows

pub returns-in_err-others-clause-grows : goal.returns-in_err-others-clause-grows
returns-in_err-others-clause-grows c = grows_trans _ _ _ (grows_trans _ _ _ c.in_ok-outs.ensures.grows c.in_ok-rest.ensures.grows) c.in_err-others.ensures.grows

pub returns-clause-grows : goal.returns-clause-grows
returns-clause-grows c = grows_trans _ _ _ (grows_trans _ _ _ c.in_ok-outs.ensures.grows c.in_ok-rest.ensures.grows) c.in_ok-others.ensures.grows
