use Rattle.std.proofs.Common.{◌≡◌, drop, is_some, not}
use Rattle.std.specs.List.{list_all}
use Rattle.srp_core.specs.Stability.{label}
use Rattle.srp_questions.proofs.truth.have_no_routes.Given as goal

-- all that are left pass where all do
abbrev pub invariant-loop-router : goal.invariant-loop-router
invariant-loop-router l = list_all (λ u. not (is_some (label l.labels u))) (drop l.router-index l.router-items) ≡
    list_all (λ u. not (is_some (label l.labels u))) l.router-items
