-- The groups of the routers for a destination class: the coarsest admissible partition of its problem
-- (Beckett, Gupta, Mahajan and Walker, Control Plane Compression, SIGCOMM 2018, section 4).
use Rattle.std.specs.Prelude.{ℕ, List, Contains}
use Rattle.base_kit.specs.Prefixes.{Prefix}
use Rattle.cfg_ast.specs.declared.network.Network.{Network}
use Rattle.cfg_ast.specs.declared.classes.DestClass.{DestClass}
use Rattle.srp_core.specs.Problem.{Problem}
use Rattle.srp_core.specs.ProblemOf.{IsProblemOf}
use Rattle.srp_core.specs.Quotient.{IsCoarsest}

-- the problem of every prefix of the class
abbrev pub IsProblemOfClass : Network → DestClass → Problem → Type 0
IsProblemOfClass network class problem = (p : Prefix) → Contains class.prefixes p → IsProblemOf network p problem

-- a problem of a class, and its coarsest admissible partition
pub record AreGroupsOf (network : Network) (class : DestClass) (problem : Problem) (groups : List ℕ) : Type 0 where
  pub of_class : IsProblemOfClass network class problem
  pub coarsest : IsCoarsest problem groups
