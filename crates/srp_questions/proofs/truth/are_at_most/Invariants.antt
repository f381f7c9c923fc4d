use Rattle.std.proofs.Common.{◌≡◌, drop}
use Rattle.std.specs.List.{list_all}
use Rattle.std.specs.Prelude.{nat_le, slice_index}
use Rattle.srp_questions.proofs.truth.are_at_most.Given as goal

-- all that are left pass where all do
abbrev pub invariant-loop-router : goal.invariant-loop-router
invariant-loop-router l = list_all (λ u. nat_le (slice_index l.lengths u) l.most) (drop l.router-index l.router-items) ≡
    list_all (λ u. nat_le (slice_index l.lengths u) l.most) l.router-items
