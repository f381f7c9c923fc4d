use Rattle.std.proofs.Common.{◌≡◌, ◌∙◌, ◌+◌, ◌<◌, ℕ, Bool, false, List, [], Some, Option, length, take, ap, sym, subst}
use Rattle.std.specs.Prelude.{filter}
use Rattle.std.specs.List.{cons_option}
use Rattle.std.proofs.lemmas.List.{take_all}
use Rattle.abstract_net.specs.declared.steps.Step.{Step}
use Rattle.abstract_net.specs.GroupSteps.{goes_into}
use Rattle.abstract_net.proofs.Least.{AreOfOneAct, taken, passed, only_one}
use Rattle.abstract_net.proofs.runs.only_edge.Goals as goal
use Rattle.abstract_net.proofs.runs.only_edge.Goals.{then-step-into_low+else-is_of_other_act, else-step-into_low}

abbrev none : Step
none = record { low = 0; high = 0; into_low = false; act = 0; link = 0; edge = 0 }

pub loop-step-preserved : goal.loop-step-preserved
loop-step-preserved c =
    let b : Bool = c.args.into_low in
    let run : List Step = c.args.run.now in
    let i : ℕ = c.loop-step.step-index in
    let inside : i < length run = c.loop-step-test.true in
    elim c.if-step-into_low.branch [
      | then-step-into_low+else-is_of_other_act w ↦
          subst (AreOfOneAct (filter (goes_into b) (take (i + 1) run))) (sym (w.least-is ∙ ap Some w.lower_of.ensures))
          (taken b run i none inside c.loop-step.least c.loop-step.invariant w.if-step-into_low.true
          (sym w.is_of_other_act.ensures ∙ w.if-is_of_other_act.false))
      | else-step-into_low w ↦
          subst (AreOfOneAct (filter (goes_into b) (take (i + 1) run))) (sym w.least-is)
          (passed b run i none inside c.loop-step.least c.loop-step.invariant w.if-step-into_low.false)
    ]

pub returns : goal.returns
returns c =
    let b : Bool = c.args.into_low in
    let run : List Step = c.args.run.now in
    let all : take c.loop-step.step-index run ≡ run = take_all c.loop-step.step-index run c.loop-step-test.false in
    only_one b run c.loop-step.least (subst (λ (xs : List Step). AreOfOneAct (filter (goes_into b) xs) c.loop-step.least) all c.loop-step.invariant)
    ∙ ap (λ (o : Option ℕ). cons_option o []) (sym c.edge_of.ensures)
