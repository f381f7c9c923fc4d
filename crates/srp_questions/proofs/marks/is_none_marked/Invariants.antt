use Rattle.std.proofs.Common.{◌≡◌, drop, not}
use Rattle.std.specs.List.{list_all}
use Rattle.srp_questions.specs.Walks.{is_marked}
use Rattle.srp_questions.proofs.marks.is_none_marked.Given as goal

-- all that are left pass where all do
abbrev pub invariant-loop-router : goal.invariant-loop-router
invariant-loop-router l = list_all (λ u. not (is_marked l.marks u)) (drop l.router-index l.router-items) ≡
    list_all (λ u. not (is_marked l.marks u)) l.router-items
