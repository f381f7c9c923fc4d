-- Which routers are known to rest, while a run goes on.
use Rattle.std.specs.Prelude.{◌≡◌, ◌≢◌, ℕ, ◌<◌, true, false, Bool, List, Option, length, slice_index_or, Vec, Contains}
use Rattle.std.specs.declared.alloc.Global.{Global}
use Rattle.base_kit.specs.declared.act_graph.Edge.{Edge}
use Rattle.refine_partition.specs.declared.imports.Import.{Import}
use Rattle.refine_partition.specs.Index.{IsImportIndex}
use Rattle.srp_core.specs.Problem.{Problem, count}
use Rattle.srp_core.specs.Stability.{label, AreLabels}
use Rattle.route_run.specs.declared.resting.State.{State}
use Rattle.route_run.specs.Activations.{chosen_label}

-- for each router the imports over the edges that it exports to
pub record AreExports (problem : Problem) (imports : List (Vec Import Global)) : Type 0 where
  pub total : length imports ≡ count problem
  pub index : IsImportIndex problem.edges imports

-- the mark of a router
abbrev pub is_at_rest : List Bool → ℕ → Bool
is_at_rest marks router = slice_index_or marks router false

-- an activation of each router that is marked keeps its label
pub record IsRunState (problem : Problem) (state : State) : Type 0 where
  pub fitting : AreLabels problem state.labels
  pub total : length state.rests.items ≡ count problem
  pub rest : (u : ℕ) → is_at_rest state.rests.items u ≡ true → chosen_label problem state.labels u ≡ label state.labels u

-- no router that imports from this one is marked any more, and no router is newly marked
pub record HasWoken (problem : Problem) (router : ℕ) (before after : List Bool) : Type 0 where
  pub total : length after ≡ length before
  pub still : (u : ℕ) → is_at_rest after u ≡ true → is_at_rest before u ≡ true
  pub woken : (edge : Edge) → Contains problem.edges edge → edge.exporter ≡ router → is_at_rest after edge.importer ≡ false
