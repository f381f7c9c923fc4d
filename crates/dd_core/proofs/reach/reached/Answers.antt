use Rattle.std.proofs.Common.{◌≡◌, ◌+◌, ◌-◌, ◌∙◌, arith, sym, ap, List, Bool, length}
use Rattle.dd_core.specs.Marks.{IsMarking}
use Rattle.dd_core.proofs.MarkLemmas.{marking_start, marking_step, marking_done, lent_back}
use Rattle.dd_core.proofs.reach.reached.Goals as goal

pub loop-place-init : goal.loop-place-init
loop-place-init c =
    record {
      below = omega arith;
      marking = marking_start c.args.table.now c.args.from c.in_ok-marks.marks.items (c.in_ok-marks.ensures.items_if_clones_equal (λ y h. h))
          (sym c.in_ok-marks.marks.ok.0 ∙ c.in_ok-marks.ensures.len);
    }

pub loop-place-preserved : goal.loop-place-preserved
loop-place-preserved c =
    let below = c.loop-place.invariant.below in
    let some = c.loop-place-test.true in
    let size : length c.mark_sons.new.marks ≡ length c.loop-place.marks.items = c.mark_sons.ensures.total
    ∙ ap (λ (l : List Bool). length l) c.deref_mut.ensures.value in
    let before : IsMarking c.args.table.now c.args.from c.deref_mut.result.now (c.loop-place.place - 1 + 1) =
    (let e : c.loop-place.place - 1 + 1 ≡ c.loop-place.place = omega arith in rw (e, c.deref_mut.ensures.value) c.loop-place.invariant.marking) in
    record {
      below = omega arith;
      marking = rw (lent_back c.loop-place.marks.len c.loop-place.marks.items c.mark_sons.new.marks (size ∙ sym c.loop-place.marks.ok.0)
          (sym c.loop-place.marks.ok.0)) (marking_step c.args.table.now c.deref_mut.result.now (c.loop-place.place - 1) c.mark_sons.new.marks c.args.from
          c.mark_sons.ensures before);
    }

pub returns : goal.returns
returns c =
    let none = c.loop-place-test.false in
    marking_done _ _ _ c.loop-place.place (omega arith) c.loop-place.invariant.marking
