use Rattle.std.proofs.Common.{◌∙◌, Option, Some, refl, ap, subst, sym}
use Rattle.solution_search.specs.declared.sweeping.Look.{Look}
use Rattle.solution_search.specs.declared.sweeping.Look.TheVariants.{Dead, Solved}
use Rattle.solution_search.proofs.SweptSoFar.{Kept, step_to, kept_settled, kept_same, so_far_steps}
use Rattle.solution_search.proofs.sweeping.sweep_by.Goals as goal
use Rattle.solution_search.proofs.sweeping.sweep_by.Goals.{in-None, in-Some+in-Settled}

pub loop-router-init : goal.loop-router-init
loop-router-init c = record { kept = record { board = c.requires.board; outlook = c.requires.outlook; so_far = refl }; queued = λ q. q }

pub returns-in-Dead-clause-steps : goal.returns-in-Dead-clause-steps
returns-in-Dead-clause-steps c =
    step_to c.args.lookups.now c.args.board.now c.loop-router.board c.settle_if_clear.new.board c.loop-router.swept c.in_ok-settle_if_clear.field-0 Dead
    c.loop-router.invariant.kept.so_far c.in_ok-settle_if_clear.ensures.steps (c.in-Some.is ∙ ap (λ (l : Look). Some l) c.in-Dead.is)

pub returns-in-Solved-clause-steps : goal.returns-in-Solved-clause-steps
returns-in-Solved-clause-steps c =
    step_to c.args.lookups.now c.args.board.now c.loop-router.board c.settle_if_clear.new.board c.loop-router.swept c.in_ok-settle_if_clear.field-0 Solved
    c.loop-router.invariant.kept.so_far c.in_ok-settle_if_clear.ensures.steps (c.in-Some.is ∙ ap (λ (l : Look). Some l) c.in-Solved.is)

pub returns-clause-steps : goal.returns-clause-steps
returns-clause-steps c = so_far_steps c.args.lookups.now c.args.board.now c.loop-router.board c.loop-router.swept c.loop-router.invariant.kept.so_far

pub loop-router-preserved : goal.loop-router-preserved
loop-router-preserved c =
    let P = c.args.lookups.now in
    let table = c.args.outlook.now.table.items in
    let step = c.in_ok-settle_if_clear.ensures in
    record {
      kept = elim c.match-branch-2.branch [
        | in-None w ↦ subst (λ (s : Option Look). Kept P table c.args.board.now c.settle_if_clear.new.board s) (sym w.swept-is)
            (kept_same P table c.args.board.now c.loop-router.board c.settle_if_clear.new.board c.loop-router.swept c.in_ok-settle_if_clear.field-0
            c.loop-router.invariant.kept step.steps w.in-None.is)
        | in-Some+in-Settled w ↦ subst (λ (s : Option Look). Kept P table c.args.board.now c.settle_if_clear.new.board s) (sym w.swept-is)
            (kept_settled P table c.args.board.now c.loop-router.board c.settle_if_clear.new.board c.loop-router.swept c.in_ok-settle_if_clear.field-0
            c.loop-router.invariant.kept step.steps step.outlook (w.in-Some.is ∙ ap (λ (l : Look). Some l) w.in-Settled.is))
      ];
      queued = λ q. step.queued (c.loop-router.invariant.queued q);
    }
