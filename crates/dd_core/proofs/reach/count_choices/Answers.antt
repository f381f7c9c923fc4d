use Rattle.std.proofs.Common.{arith, sym, ◌∙◌}
use Rattle.dd_core.proofs.MarkLemmas.{counted_more, counted_same}
use Rattle.dd_core.proofs.reach.count_choices.Goals.{then-is_marked_choice, else-is_marked_choice}
use Rattle.dd_core.proofs.reach.count_choices.Goals as goal

pub loop-place-preserved : goal.loop-place-preserved
loop-place-preserved c =
    let small = c.loop-place.invariant.small in
    let counted = c.loop-place.invariant.counted in
    elim c.if-is_marked_choice.branch [
      | then-is_marked_choice w ↦
          let e = counted_more c.args.table.now c.args.marks.now c.loop-place.place (sym c.is_marked_choice.ensures ∙ w.if-is_marked_choice.true) in
          let is = w.count-is in
          record { small = omega arith; counted = omega arith }
      | else-is_marked_choice w ↦
          let e = counted_same c.args.table.now c.args.marks.now c.loop-place.place (sym c.is_marked_choice.ensures ∙ w.if-is_marked_choice.false) in
          let is = w.count-is in
          record { small = omega arith; counted = omega arith }
    ]
