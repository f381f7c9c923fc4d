-- What the search looks up in a problem.
use Rattle.std.specs.Prelude.{◌≡◌, ℕ, ◌<◌, ◌≤◌, true, List, length, Some, slice_index_or, Vec}
use Rattle.std.specs.Option.{unwrap_or}
use Rattle.std.specs.declared.alloc.Global.{Global}
use Rattle.route_maps.specs.declared.plain.PlainEntry.{PlainEntry}
use Rattle.refine_partition.specs.declared.imports.Import.{Import}
use Rattle.refine_partition.specs.Index.{IsImportIndex}
use Rattle.srp_core.specs.declared.route.Route.{Route}
use Rattle.srp_core.specs.declared.route.Act.{Act}
use Rattle.srp_core.specs.declared.route.Act.TheVariants.{Cost}
use Rattle.srp_core.specs.Acts.{step_by}
use Rattle.srp_core.specs.Routes.{preference_of}
use Rattle.srp_core.specs.Problem.{Problem, count}

-- the entry gives no route a higher preference
pub record GivesAtMost (highest : ℕ) (entry : PlainEntry) : Type 0 where
  pub most : entry.permit ≡ true → unwrap_or entry.lp 100 ≤ highest

-- no route over the act has a higher preference
pub record IsHighest (act : Act) (highest : ℕ) : Type 0 where
  pub most : (number : ℕ) (from route : Route) → step_by act number from ≡ Some route → preference_of route ≤ highest

-- for each router what it exports, and for each act a preference that no route over it exceeds
pub record AreTables (problem : Problem) (imports : List (Vec Import Global)) (highest : List ℕ) : Type 0 where
  pub total : length imports ≡ count problem
  pub index : IsImportIndex problem.edges imports
  pub acts : length highest ≡ length problem.acts
  pub each : (i : ℕ) → i < length problem.acts → IsHighest (slice_index_or problem.acts i (Cost 0)) (slice_index_or highest i 0)
