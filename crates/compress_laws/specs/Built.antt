-- The plan of a class: what its network of the groups is written from.
use Rattle.std.specs.Prelude.{◌≡◌}
use Rattle.base_kit.specs.Partition.{IsNumbered}
use Rattle.cfg_ast.specs.declared.network.Network.{Network}
use Rattle.cfg_ast.specs.declared.classes.DestClass.{DestClass}
use Rattle.abstract_net.specs.Links.{quotient_links}
use Rattle.srp_core.specs.Problem.{Problem}
use Rattle.srp_core.specs.Quotient.{IsCoarsest}
use Rattle.srp_build.specs.Built.{IsBuiltFor}
use Rattle.config_emit.specs.Plan.{Plan}

-- A plan of a class: a problem, its coarsest admissible partition with the groups numbered by their least
-- members, and the links between the groups.
pub record IsPlanFor (IsProblemFor : Network → DestClass → Problem → Type 0) (network : Network) (class : DestClass) (e : Plan) : Type 0 where
  pub network_is : e.network ≡ network
  pub class_is : e.class ≡ class
  pub built : IsProblemFor network class e.problem
  pub coarsest : IsCoarsest e.problem e.groups
  pub numbered : IsNumbered e.groups e.count
  pub links : e.links ≡ quotient_links e.problem.edges e.groups e.count

-- The only plan of a class: the one with the problem that is built for it.
abbrev pub IsPlanOf : Network → DestClass → Plan → Type 0
IsPlanOf network class e = IsPlanFor IsBuiltFor network class e
