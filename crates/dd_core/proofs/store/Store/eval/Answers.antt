use Rattle.std.proofs.Common.{arith, sym, ap, refl, ◌∙◌, ◌≡◌, true, false, length}
use Rattle.dd_core.specs.Sets.{test_of, value_of}
use Rattle.dd_core.proofs.ValueLemmas.{value-Constant, value-Choice}
use Rattle.dd_core.proofs.store.Store.eval.Goals as goal

pub returns-in-Constant : goal.returns-in-Constant
unfolding value_of
returns-in-Constant c = rw (← c.self.view_is) (sym (value-Constant c.self.inside.table (test_of c.self.inside.universe c.args.set.now) c.loop-answer.place
    c.in-Constant.answer c.in-Constant.ensures) ∙ c.loop-answer.invariant.same)

pub loop-answer-smaller-then-is_true : goal.loop-answer-smaller-then-is_true
loop-answer-smaller-then-is_true c = (c.self.invariant.store.reduced c.loop-answer.place c.in-Choice.variable c.in-Choice.high c.in-Choice.low
    c.in-Choice.ensures).high_before

pub loop-answer-smaller : goal.loop-answer-smaller
loop-answer-smaller c = (c.self.invariant.store.reduced c.loop-answer.place c.in-Choice.variable c.in-Choice.high c.in-Choice.low
    c.in-Choice.ensures).low_before

pub loop-answer-preserved-then-is_true : goal.loop-answer-preserved-then-is_true
loop-answer-preserved-then-is_true c =
    let r = c.self.invariant.store.reduced c.loop-answer.place c.in-Choice.variable c.in-Choice.high c.in-Choice.low c.in-Choice.ensures in
    let hb = r.high_before in
    let inside = c.loop-answer.invariant.inside in
    let is : test_of c.self.inside.universe c.args.set.now c.in-Choice.variable ≡ true = sym c.is_true.ensures ∙ c.if-is_true.true in
    record {
      inside = omega arith;
      same = sym (rw is at (value-Choice c.self.inside.table (test_of c.self.inside.universe c.args.set.now) c.loop-answer.place c.in-Choice.variable
          c.in-Choice.high c.in-Choice.low c.in-Choice.ensures hb r.low_before)) ∙ c.loop-answer.invariant.same;
    }

pub loop-answer-preserved : goal.loop-answer-preserved
loop-answer-preserved c =
    let r = c.self.invariant.store.reduced c.loop-answer.place c.in-Choice.variable c.in-Choice.high c.in-Choice.low c.in-Choice.ensures in
    let lb = r.low_before in
    let inside = c.loop-answer.invariant.inside in
    let is : test_of c.self.inside.universe c.args.set.now c.in-Choice.variable ≡ false = sym c.is_true.ensures ∙ c.if-is_true.false in
    record {
      inside = omega arith;
      same = sym (rw is at (value-Choice c.self.inside.table (test_of c.self.inside.universe c.args.set.now) c.loop-answer.place c.in-Choice.variable
          c.in-Choice.high c.in-Choice.low c.in-Choice.ensures r.high_before lb)) ∙ c.loop-answer.invariant.same;
    }

pub loop-answer-init : goal.loop-answer-init
loop-answer-init c = rw c.place-place.ensures (record { inside = rw (ap (λ s. length s.nodes) (sym c.self.view_is)) at c.requires; same = refl })
