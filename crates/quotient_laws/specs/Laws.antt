-- What the coarsest partition says of its own quotient (Beckett, Gupta, Mahajan and Walker, Control Plane Compression,
-- SIGCOMM 2018, section 5).
use Rattle.std.specs.Prelude.{◌≡◌, ℕ, ◌<◌, List}
use Rattle.srp_core.specs.Problem.{Problem, count, IsProblem}
use Rattle.srp_core.specs.Quotient.{group_of, IsAdmissible, IsCoarsest, IsQuotient}

-- no two routers are together
abbrev pub IsDiscrete : ℕ → List ℕ → Type 0
IsDiscrete routers groups = (u v : ℕ) → u < routers → v < routers → group_of groups u ≡ group_of groups v → u ≡ v

-- An admissible partition of the quotient of a problem by its coarsest partition puts no two routers together.
abbrev pub QuotientIsSmallest : Type 0
QuotientIsSmallest = (problem small : Problem) (groups others : List ℕ) → IsProblem problem → IsProblem small → IsCoarsest problem groups
    → IsQuotient problem groups small → IsAdmissible small others → IsDiscrete (count small) others
