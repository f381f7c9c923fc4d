use Rattle.std.proofs.Common.{◌≡◌, drop}
use Rattle.std.specs.List.{list_all}
use Rattle.srp_core.specs.Stability.{label}
use Rattle.srp_questions.specs.Holding.{lacks_community}
use Rattle.srp_questions.proofs.truth.all_lack.Given as goal

-- all that are left pass where all do
abbrev pub invariant-loop-router : goal.invariant-loop-router
invariant-loop-router l = list_all (λ u. lacks_community l.community (label l.labels u)) (drop l.router-index l.router-items) ≡
    list_all (λ u. lacks_community l.community (label l.labels u)) l.router-items
