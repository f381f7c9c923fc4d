-- What holds of the problem of the groups.
use Rattle.std.specs.Prelude.{ℕ, ◌^◌, ◌<◌, List, length}
use Rattle.base_kit.specs.Partition.{IsNumbered}
use Rattle.abstract_net.specs.Links.{quotient_links}
use Rattle.srp_core.specs.Problem.{Problem, IsProblem}
use Rattle.srp_core.specs.Quotient.{IsAdmissible, IsQuotient}
use Rattle.srp_quotient.specs.Groups.{small_of}

-- the problem of the groups is the quotient
abbrev pub QuotientIsQuotient : Type 0
QuotientIsQuotient = (problem : Problem) (groups : List ℕ) (count : ℕ) → IsProblem problem → IsAdmissible problem groups → IsNumbered groups count
    → IsQuotient problem groups (small_of problem groups count)

-- it keeps the rules of a problem, with fewer than 2^31 links, so that its edges have numbers of 32 bits
abbrev pub QuotientIsProblem : Type 0
QuotientIsProblem = (problem : Problem) (groups : List ℕ) (count : ℕ) → IsProblem problem → IsAdmissible problem groups → IsNumbered groups count
    → length (quotient_links problem.edges groups count) < 2 ^ 31 → IsProblem (small_of problem groups count)
