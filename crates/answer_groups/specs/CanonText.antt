-- The text of the command `canon`: that of `compress`, with the canonical maps of what each session imports, so that it does
-- not depend on how somebody wrote the maps that were read.
use Rattle.std.specs.Prelude.{◌≡◌, ◌⊎◌, ℕ, List, [], ◌++◌, codes, slice_index_or}
use Rattle.base_kit.specs.declared.act_graph.Edge.{Edge}
use Rattle.cfg_ast.specs.declared.network.Network.{Network}
use Rattle.cfg_ast.specs.declared.classes.DestClass.{DestClass}
use Rattle.cfg_ast.specs.meaning.Classes.{classes_of}
use Rattle.cfg_ast.specs.meaning.PolicyFaults.{communities_of}
use Rattle.canon_policy.specs.CanonicalProblem.{IsCanonicalProblem, IsFirstWithout}
use Rattle.config_emit.specs.Plan.{Plan}
use Rattle.config_emit.specs.Pool.{pool_line}
use Rattle.srp_build.specs.Built.{IsBuiltFor}
use Rattle.srp_core.specs.Problem.{Problem}
use Rattle.compress_laws.specs.Built.{IsPlanFor}
use Rattle.answer_kit.specs.Outcome.{Outcome, refused}
use Rattle.answer_kit.specs.ClassNumbers.{class_at, IsOfClass}
use Rattle.answer_groups.specs.CompressText.{IsTextOfPlan, IsUnlessPool}

-- The problem of a class with canonical acts, over the communities that the network names.
pub record IsCanonicalFor (network : Network) (class : DestClass) (problem : Problem) : Type 0 where
  pub original : Problem
  pub built : IsBuiltFor network class original
  pub canonical : IsCanonicalProblem (communities_of network) original problem

-- the plan of a class with that problem
abbrev pub IsCanonicalPlanOf : Network → DestClass → Plan → Type 0
IsCanonicalPlanOf network class plan = IsPlanFor IsCanonicalFor network class plan

-- the name of a router of the problem
abbrev pub router_name_in : Problem → ℕ → List ℕ
router_name_in problem router = slice_index_or problem.names router []

-- the reason of a refusal where an edge has no canonical lists
abbrev pub no_canon : Problem → Edge → List ℕ
no_canon problem edge = codes "NoCanon " ++ router_name_in problem edge.importer ++ codes " " ++ router_name_in problem edge.exporter

-- some edge of the class's problem has none, and the first that has none is reported
pub record IsWithoutCanon (network : Network) (class : DestClass) (o : Outcome) : Type 0 where
  pub problem : Problem
  pub built : IsBuiltFor network class problem
  pub place : ℕ
  pub first : IsFirstWithout (communities_of network) problem place
  pub told : o ≡ refused (no_canon problem first.edge)

-- all edges have canonical lists, and the text of the plan is written
pub record IsWithCanon (network : Network) (class : DestClass) (o : Outcome) : Type 0 where
  pub problem : Problem
  pub is : IsCanonicalFor network class problem
  pub emission : IsUnlessPool (pool_line network class) (IsTextOfPlan (IsCanonicalPlanOf network class)) o

-- the output of `canon` for a class
abbrev pub IsCanonOf : Network → DestClass → Outcome → Type 0
IsCanonOf network class o = IsWithoutCanon network class o ⊎ IsWithCanon network class o

-- what `canon` is to write of a network and the number of a class
abbrev pub IsCanonAnswer : Network → ℕ → Outcome → Type 0
IsCanonAnswer network number = IsOfClass (class_at (classes_of network) number) number (IsCanonOf network)
