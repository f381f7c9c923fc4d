-- What each step gives on the way from a network to the network of the groups of a class (Beckett, Gupta,
-- Mahajan and Walker, Control Plane Compression, SIGCOMM 2018).
use Rattle.std.specs.Prelude.{◌≡◌, ℕ, length, Some, None, Result, Ok, Err, Contains}
use Rattle.base_kit.specs.Partition.{IsNumbered}
use Rattle.cfg_ast.specs.declared.network.Network.{Network}
use Rattle.cfg_ast.specs.declared.classes.DestClass.{DestClass}
use Rattle.cfg_ast.specs.meaning.Classes.{classes_of}
use Rattle.cfg_ast.specs.meaning.PolicyFaults.{communities_of}
use Rattle.cfg_ast.specs.meaning.Topology.{links_of}
use Rattle.abstract_net.specs.Links.{quotient_links}
use Rattle.config_emit.specs.declared.emitted.EmitRefusal.{EmitRefusal}
use Rattle.config_emit.specs.declared.emitted.EmitRefusal.TheVariants.{PoolOverlap, Memory}
use Rattle.config_emit.specs.declared.emitted.Emitted.{Emitted}
use Rattle.config_emit.specs.Answers.{IsEmitted}
use Rattle.config_emit.specs.Plan.{Plan}
use Rattle.config_emit.specs.Pool.{pool_line}
use Rattle.refine_partition.specs.Index.{IsImportIndex}
use Rattle.refine_partition.specs.declared.imports.Exports.{Exports}
use Rattle.srp_build.specs.Built.{IsBuiltFor}
use Rattle.srp_build.specs.Directions.{AreDirectionsOf}
use Rattle.srp_core.specs.Problem.{Problem, count}
use Rattle.srp_core.specs.Quotient.{IsCoarsest}
use Rattle.driver.specs.declared.class_problem.ClassProblem.{ClassProblem}
use Rattle.driver.specs.declared.grouping.Grouping.{Grouping}
use Rattle.driver.specs.declared.shared.Shared.{Shared}

-- the links of the network, their directions, and a store over the communities that it names
pub record IsSharedOf (network : Network) (shared : Shared) : Type 0 where
  pub links : shared.links ≡ links_of network
  pub directions : AreDirectionsOf network shared.directions
  pub universe : shared.store.universe ≡ communities_of network

-- an index of the edges of the problem by their exporters
pub record AreExportsOf (problem : Problem) (exports : Exports) : Type 0 where
  pub total : length exports.imports.items ≡ count problem
  pub index : IsImportIndex problem.edges exports.imports.items

-- the problem of the class, and an index of its edges
pub record IsClassProblem (network : Network) (class : DestClass) (k : ClassProblem) : Type 0 where
  pub built : IsBuiltFor network class k.problem
  pub exports : AreExportsOf k.problem k.exports

-- the problem and the index of some class of the network
abbrev pub IsProblemOfSome : Network → ClassProblem → Type 0
IsProblemOfSome network k = (class : DestClass) × Contains (classes_of network) class × IsClassProblem network class k

-- the problem, its coarsest admissible partition, and the links between the groups
pub record IsGroupingOf (problem : Problem) (g : Grouping) : Type 0 where
  pub problem_is : g.problem ≡ problem
  pub coarsest : IsCoarsest g.problem g.groups
  pub links : (count : ℕ) → IsNumbered g.groups count → g.quotient.links ≡ quotient_links g.problem.edges g.groups count

-- The only plan by which a problem of a class is compressed: its coarsest admissible partition with the
-- groups numbered by their least members, and the links between the groups.
pub record IsPlanWith (network : Network) (class : DestClass) (problem : Problem) (plan : Plan) : Type 0 where
  pub network_is : plan.network ≡ network
  pub class_is : plan.class ≡ class
  pub problem_is : plan.problem ≡ problem
  pub coarsest : IsCoarsest plan.problem plan.groups
  pub numbered : IsNumbered plan.groups plan.count
  pub links : plan.links ≡ quotient_links plan.problem.edges plan.groups plan.count

-- the network of the groups of an allowed plan, where no prefix of the class meets the addresses of the links
pub record IsOfPlan (IsAllowed : Plan → Type 0) (network : Network) (class : DestClass) (x : Emitted) : Type 0 where
  pub apart : pool_line network class ≡ None
  pub plan : Plan
  pub is : IsAllowed plan
  pub emitted : IsEmitted x plan

-- That, or the line of a prefix of the class that meets them.
abbrev pub IsEmittedBy : (Plan → Type 0) → Network → DestClass → Result Emitted EmitRefusal → Type 0
IsEmittedBy IsAllowed network class (Ok x) = IsOfPlan IsAllowed network class x
IsEmittedBy IsAllowed network class (Err (PoolOverlap line)) = pool_line network class ≡ Some line
IsEmittedBy IsAllowed network class (Err Memory) = Unit {0}

-- what is emitted of a problem of a class
abbrev pub IsEmittedOf : Network → DestClass → Problem → Result Emitted EmitRefusal → Type 0
IsEmittedOf network class problem = IsEmittedBy (IsPlanWith network class problem) network class
