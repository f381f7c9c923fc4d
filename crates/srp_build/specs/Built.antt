-- What is built for a class.
use Rattle.std.specs.Prelude.{Contains}
use Rattle.base_kit.specs.Prefixes.{Prefix}
use Rattle.cfg_ast.specs.declared.classes.DestClass.{DestClass}
use Rattle.cfg_ast.specs.declared.network.Network.{Network}
use Rattle.srp_core.specs.Problem.{Problem}
use Rattle.srp_core.specs.ProblemOf.{IsProblemOf}
use Rattle.srp_build.specs.ActOrder.{AreActsByFirstUse}
use Rattle.srp_build.specs.FirstActs.{HasFirstActs}

-- the problem of every prefix of the class, with its acts in the order of the first edges that have them,
-- each as the lines at the ends of its first edge write it
pub record IsBuiltFor (network : Network) (class : DestClass) (problem : Problem) : Type 0 where
  pub of : (p : Prefix) → Contains class.prefixes p → IsProblemOf network p problem
  pub order : AreActsByFirstUse problem
  pub acts : (p : Prefix) → Contains class.prefixes p → HasFirstActs network p problem
