use Rattle.std.proofs.Common.{◌≡◌, ◌≢◌, ℕ, ◌<◌, Some, true}
use Rattle.std.specs.Prelude.{slice_get}
use Rattle.srp_core.specs.declared.route.Candidate.{Candidate}
use Rattle.srp_core.specs.Problem.{key_of}
use Rattle.solution_lift.specs.Sides.{is_from}
use Rattle.solution_lift.proofs.next.taken.Given as goal

abbrev pub invariant-loop-candidate : goal.invariant-loop-candidate
invariant-loop-candidate l = (k : ℕ) (c : Candidate) → k < l.candidate-index → slice_get l.candidate-items k ≡ Some c →
    is_from l.target.edges l.sides l.source c ≡ true → key_of l.target c.route ≢ key_of l.target l.asked
