-- Each problem has its groups: a coarsest admissible partition, numbered by least members (Beckett, Gupta, Mahajan and
-- Walker, Control Plane Compression, SIGCOMM 2018, section 5).
use Rattle.std.specs.Prelude.{ℕ, List}
use Rattle.base_kit.specs.Partition.{IsNumbered}
use Rattle.srp_core.specs.Problem.{Problem, IsProblem}
use Rattle.srp_core.specs.Quotient.{IsCoarsest}

pub record HasGroups (problem : Problem) : Type 0 where
  pub groups : List ℕ
  pub count : ℕ
  pub coarsest : IsCoarsest problem groups
  pub numbered : IsNumbered groups count

abbrev pub EachHasGroups : Type 0
EachHasGroups = (problem : Problem) → IsProblem problem → HasGroups problem
