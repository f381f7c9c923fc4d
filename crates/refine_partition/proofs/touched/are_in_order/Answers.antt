use Rattle.std.proofs.Common.{◌≡◌, ◌+◌, ◌-◌, ◌<◌, ap, arith, inl, inr}
use Rattle.std.specs.Prelude.{slice_index}
use Rattle.std.proofs.lemmas.Bool.{cases_lt}
use Rattle.refine_partition.proofs.touched.are_in_order.Goals as goal

pub loop-place-preserved : goal.loop-place-preserved
loop-place-preserved c k lt =
    let blocks = c.args.blocks.now in
    let place = c.loop-place.place in
    elim (cases_lt (k + 1) place) [
      | inl earlier ↦ c.loop-place.invariant k earlier
      | inr here ↦
          let one : slice_index blocks k ≡ slice_index blocks (place - 1) = ap (slice_index blocks) (omega arith) in
          let next : slice_index blocks (k + 1) ≡ slice_index blocks place = ap (slice_index blocks) (omega arith) in
          let above : slice_index blocks (place - 1) < slice_index blocks place = c.if-blocks-place.false in
          omega arith
    ]
