use Rattle.std.proofs.Common.{◌≡◌, ◌<◌, List, length, get_or, take, sym, ap, ◌∙◌, subst, arith}
use Rattle.std.specs.Prelude.{All}
use Rattle.std.proofs.lemmas.List.{get_or_default, take_all}
use Rattle.srp_core.specs.Problem.{Problem, count}
use Rattle.srp_core.specs.Stability.{AreLabels}
use Rattle.route_run.specs.declared.schedule.Activation.{Activation}
use Rattle.route_run.specs.declared.schedule.Activation.TheVariants.{One}
use Rattle.route_run.specs.Activations.{labels_after, no_labels}
use Rattle.route_run.specs.Rests.{IsRunState}
use Rattle.route_run.specs.Schedules.{run_of, routers_of}
use Rattle.route_run.proofs.AtRest.{no_labels_fit}
use Rattle.route_run.proofs.RoundsEnough.{rounds_enough_by, ospf_enough_by}
use Rattle.route_run.proofs.Runs.{routers_inside, schedule_next}
use Rattle.route_run.proofs.running.run_schedule.Goals as goal

pub state_of-requires : goal.state_of-requires
state_of-requires c = subst (AreLabels _) (sym c.in_ok-labels.ensures) (no_labels_fit _)

pub loop-activation-init : goal.loop-activation-init
loop-activation-init c = record {
  run = c.in_ok-state.ensures.labels ∙ c.in_ok-labels.ensures ∙ ap (λ (P : Problem). no_labels P) c.in_ok-runner.ensures;
  state = subst (λ (P : Problem). IsRunState P c.in_ok-state.state) c.in_ok-runner.ensures c.in_ok-state.ensures.state;
}

pub run_next-requires-clause-state : goal.run_next-requires-clause-state
run_next-requires-clause-state c = subst (λ (P : Problem). IsRunState P c.loop-activation.state) (sym c.in_ok-runner.ensures) c.loop-activation.invariant.state

pub run_next-requires-clause-inside : goal.run_next-requires-clause-inside
run_next-requires-clause-inside c =
    let items = c.as_slice-activation-items.result.now in
    let i = c.loop-activation.activation-index in
    let schedule = c.args.schedule.now in
    let a : Activation = get_or items i (One 0) in
    let less : i < length schedule = omega (arith, c.loop-activation-test.true, ap length c.as_slice-activation-items.ensures) in
    let is : a ≡ get_or schedule i a = get_or_default items i (One 0) a c.loop-activation-test.true
    ∙ ap (λ (xs : List Activation). get_or xs i a) c.as_slice-activation-items.ensures in
    subst (λ (P : Problem). All (λ u. u < count P) (routers_of (count P) a)) (sym c.in_ok-runner.ensures)
    (routers_inside (count c.args.srp.now) schedule i a less is c.requires)

pub returns-clause-labels : goal.returns-clause-labels
returns-clause-labels c = c.loop-activation.invariant.state.fitting

pub returns-clause-rounds : goal.returns-clause-rounds
returns-clause-rounds c =
    let P = c.args.srp.now in
    let schedule = c.args.schedule.now in
    let i = c.loop-activation.activation-index in
    let all : take i schedule ≡ schedule = take_all i schedule (omega (arith, c.loop-activation-test.false, ap length c.as_slice-activation-items.ensures)) in
    rounds_enough_by P c.count-known.ensures.rules (run_of (count P) schedule) c.requires c.loop-activation.state.labels
    (c.loop-activation.invariant.run ∙ ap (λ (xs : List Activation). labels_after P (no_labels P) (run_of (count P) xs)) all)

pub returns-clause-ospf_rounds : goal.returns-clause-ospf_rounds
returns-clause-ospf_rounds c =
    let P = c.args.srp.now in
    let schedule = c.args.schedule.now in
    let i = c.loop-activation.activation-index in
    let all : take i schedule ≡ schedule = take_all i schedule (omega (arith, c.loop-activation-test.false, ap length c.as_slice-activation-items.ensures)) in
    ospf_enough_by P c.count-known.ensures.rules (run_of (count P) schedule) c.requires c.loop-activation.state.labels
    (c.loop-activation.invariant.run ∙ ap (λ (xs : List Activation). labels_after P (no_labels P) (run_of (count P) xs)) all)

pub loop-activation-preserved : goal.loop-activation-preserved
loop-activation-preserved c =
    let items = c.as_slice-activation-items.result.now in
    let i = c.loop-activation.activation-index in
    let schedule = c.args.schedule.now in
    let a : Activation = get_or items i (One 0) in
    let less : i < length schedule = omega (arith, c.loop-activation-test.true, ap length c.as_slice-activation-items.ensures) in
    let is : a ≡ get_or schedule i a = get_or_default items i (One 0) a c.loop-activation-test.true
    ∙ ap (λ (xs : List Activation). get_or xs i a) c.as_slice-activation-items.ensures in
    record {
      run = schedule_next c.args.srp.now (no_labels c.args.srp.now) c.loop-activation.state.labels c.run_next.new.state.labels schedule i a less is
          c.loop-activation.invariant.run
          (subst (λ (P : Problem). c.run_next.new.state.labels ≡ labels_after P c.loop-activation.state.labels (routers_of (count P) a)) c.in_ok-runner.ensures
          c.in_ok-run_next.ensures.labels);
      state = subst (λ (P : Problem). IsRunState P c.run_next.new.state) c.in_ok-runner.ensures c.in_ok-run_next.ensures.state;
    }
