use Rattle.std.proofs.Common.{sym, ap, ◌∙◌, set, refl, arith}
use Rattle.route_run.proofs.KnownRests.{state_taken}
use Rattle.route_run.proofs.resting.take.Goals as goal

pub set-requires : goal.set-requires
set-requires c = let total = c.requires.state.fitting.total in let inside = c.requires.router in omega (arith, total, inside)

pub index_mut-requires : goal.index_mut-requires
index_mut-requires c =
    let total = c.requires.state.total in
    let inside = c.requires.router in
    let same = c.wake.ensures.total in
    omega (arith, total, inside, same)

pub returns-clause-labels : goal.returns-clause-labels
returns-clause-labels c = c.set.ensures ∙ sym (ap (set c.args.state.now.labels c.args.router) c.requires.chosen)

pub returns-clause-state : goal.returns-clause-state
returns-clause-state c =
    state_taken c.args.runner.now c.count-known.ensures.rules c.args.state.now _ c.args.router c.wake.new.rests.items c.requires.router c.requires.state
    c.wake.ensures (c.set.ensures ∙ sym (ap (set c.args.state.now.labels c.args.router) c.requires.chosen)) refl
