use Rattle.std.proofs.Common.{◌≡◌}
use Rattle.std.specs.Prelude.{filter_map}
use Rattle.refine_partition.specs.Index.{import_from}
use Rattle.srp_core.specs.Problem.{count}
use Rattle.solution_search.specs.Outlooks.{IsGrowing}
use Rattle.solution_search.proofs.ahead.growing.follow.Given as goal

abbrev pub invariant-loop-import : goal.invariant-loop-import
invariant-loop-import l = record {
  all : l.import-items ≡ filter_map (import_from l.exporter) l.lookups.edges;
  growing : IsGrowing (count l.lookups) l.growing;
}
