use Rattle.std.proofs.Common.{rules, ◌≡◌, ◌≢◌, ◌<◌, length, sym, ◌∙◌, ap}
use Rattle.std.specs.Prelude.{slice_index}
use Rattle.std.proofs.lemmas.List.{get_or_default}
use Rattle.refine_partition.proofs.StayingLemmas.{looking_dropped}
use Rattle.refine_partition.proofs.staying.staying_class.Goals as goal

pub loop-place-preserved-then-numbers-router : goal.loop-place-preserved-then-numbers-router
loop-place-preserved-then-numbers-router c =
    let inside : c.loop-place.place < length c.loop-place.list.items = search rules in
    let same : c.index-router.result.now ≡ c.swap_remove.result = c.index-router.ensures
    ∙ get_or_default c.loop-place.list.items c.loop-place.place c.index-router.result.now c.swap_remove.result inside ∙ sym c.swap_remove.ensures.value in
    let left : slice_index c.args.numbers.now c.swap_remove.result ≢ c.args.block = λ e.
    c.if-numbers-router.true (ap (slice_index c.args.numbers.now) same ∙ e) in
    looking_dropped _ _ _ _ _ _ _ _ c.loop-place.invariant inside c.swap_remove.ensures.value c.swap_remove.ensures.items left
