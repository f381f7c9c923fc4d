use Rattle.std.proofs.Common.{◌≡◌, All, take}
use Rattle.std.specs.Prelude.{filter_map}
use Rattle.refine_partition.specs.declared.imports.Import.{Import}
use Rattle.refine_partition.specs.Index.{import_from}
use Rattle.solution_search.specs.Boards.{case_of, state_of}
use Rattle.solution_search.specs.Outlooks.{IsFollowedOver}
use Rattle.solution_search.proofs.ahead.outlook.is_followed.Given as goal

abbrev pub invariant-loop-import : goal.invariant-loop-import
invariant-loop-import l = record {
  all : l.import-items ≡ filter_map (import_from l.exporter) l.lookups.edges;
  followed : All (λ (i : Import). IsFollowedOver l.lookups (case_of (state_of l.board)) l.without l.table i.importer i.act l.from)
      (take l.import-index l.import-items);
}
