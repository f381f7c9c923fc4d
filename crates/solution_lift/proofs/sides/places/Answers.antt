use Rattle.std.proofs.Common.{List, ℕ, [], ◌∷◌, ◌++◌, ap, sym, ◌∙◌, arith}
use Rattle.solution_lift.proofs.Ranges.{range_more}
use Rattle.solution_lift.proofs.sides.places.Goals as goal

pub loop-place-preserved : goal.loop-place-preserved
loop-place-preserved c = c.in_ok-push.ensures.items ∙ ap (λ (ks : List ℕ). ks ++ c.loop-place.place ∷ []) c.loop-place.invariant
    ∙ sym (range_more 0 c.loop-place.place c.loop-place.place (omega arith))
