use Rattle.std.proofs.Common.{◌∙◌, ℕ, ◌<◌, List, length, arith}
use Rattle.base_kit.specs.declared.act_graph.Edge.{Edge}
use Rattle.abstract_net.proofs.EarlySteps.{early_start, early_more, puts_some}
use Rattle.abstract_net.proofs.StepLists.{step_is, get_any}
use Rattle.abstract_net.proofs.steps.early_steps.Goals as goal

abbrev none : Edge
none = record { importer = 0; exporter = 0; act = 0; link = 0 }

pub loop-start-init : goal.loop-start-init
loop-start-init c = record { within = omega arith; early = early_start c.args.edges.now c.args.p.now _ c.new-steps.ensures.items }

pub loop-start-preserved : goal.loop-start-preserved
loop-start-preserved c =
    let es : List Edge = c.args.edges.now in
    let groups : List ℕ = c.args.p.now in
    let place : ℕ = c.loop-start.start in
    let inside : place < length es = c.loop-start-test.true in
    record {
      within = omega arith;
      early = early_more es groups place inside c.loop-start.steps.items c.loop-start.invariant.early _ _
          (c.step_of.ensures ∙ step_is es groups place _ (get_any es place none inside)) c.in_ok-push_early.ensures;
    }

pub loop-place-preserved : goal.loop-place-preserved
loop-place-preserved c =
    let es : List Edge = c.args.edges.now in
    let groups : List ℕ = c.args.p.now in
    let place : ℕ = c.loop-place.place in
    let inside : place < length es = omega arith in
    record {
      early = early_more es groups place inside c.loop-place.steps.items c.loop-place.invariant.early _ _
          (c.step_of-in-loop-place.ensures ∙ step_is es groups place _ (get_any es place none inside))
          (puts_some c.loop-place.steps.items _ _ c.push_some.ensures.items);
      room = omega arith;
    }
