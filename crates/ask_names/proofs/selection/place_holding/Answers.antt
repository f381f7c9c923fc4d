use Rattle.std.proofs.Common.{sym, ap, ◌∙◌, arith}
use Rattle.ask_names.specs.Selection.{place_having}
use Rattle.ask_names.proofs.Holding.{held_here, held_nowhere, held_shorter}
use Rattle.ask_names.proofs.selection.place_holding.Goals as goal

pub returns-in-Some-clause-value : goal.returns-in-Some-clause-value
returns-in-Some-clause-value c =
    sym (c.loop-place.invariant.same
    ∙ held_here c.args.all.now c.loop-place.len c.args.addr c.in-Some.place
    (ap (place_having c.args.all.now) (sym c.cut_to.ensures) ∙ sym c.in-Some.ensures.value))

pub returns-then-len-eq0-clause-value : goal.returns-then-len-eq0-clause-value
returns-then-len-eq0-clause-value c =
    sym (c.loop-place.invariant.same
    ∙ held_nowhere c.args.all.now c.loop-place.len c.args.addr c.if-len-eq0.true
    (ap (place_having c.args.all.now) (sym c.cut_to.ensures) ∙ sym c.place_having.ensures.value ∙ c.in_default.is))

pub loop-place-preserved : goal.loop-place-preserved
loop-place-preserved c = record {
  few = let few = c.loop-place.invariant.few in omega arith;
  same = c.loop-place.invariant.same
      ∙ held_shorter c.args.all.now c.loop-place.len c.args.addr (let some = c.if-len-eq0.false in omega arith)
      (ap (place_having c.args.all.now) (sym c.cut_to.ensures) ∙ sym c.place_having.ensures.value ∙ c.in_default.is);
}
