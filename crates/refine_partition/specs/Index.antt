-- The edges of a graph by their exporters.
use Rattle.std.specs.Prelude.{◌≡◌, ℕ, ◌<◌, List, length, slice_index_or, nat_eq, Option, Some, None, if◌then◌else◌, filter_map, Vec}
use Rattle.std.specs.declared.alloc.Global.{Global}
use Rattle.base_kit.specs.declared.act_graph.Edge.{Edge}
use Rattle.refine_partition.specs.declared.imports.Import.{Import}

-- what an edge of this exporter imports
abbrev pub import_from : ℕ → Edge → Option Import
import_from exporter edge =
    if nat_eq edge.exporter exporter then Some (record { importer = edge.importer; act = edge.act }) else None

-- for each exporter the imports over its edges
pub record IsImportIndex (edges : List Edge) (lists : List (Vec Import Global)) : Type 0 where
  pub each : (exporter : ℕ) (d : Vec Import Global) → exporter < length lists →
      (slice_index_or lists exporter d).items ≡ filter_map (import_from exporter) edges
