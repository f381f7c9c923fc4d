use Rattle.std.proofs.Common.{◌≡◌, take}
use Rattle.std.specs.Prelude.{filter_map}
use Rattle.refine_partition.specs.Index.{import_from}
use Rattle.solution_search.specs.Queues.{KeepsQueued}
use Rattle.solution_search.proofs.Giving.{Spread}
use Rattle.solution_search.proofs.settling.spread.Given as goal

abbrev pub invariant-loop-import : goal.invariant-loop-import
invariant-loop-import l = record {
  all : l.import-items ≡ filter_map (import_from l.router) l.lookups.edges;
  spread : Spread l.lookups l.initial.board l.board l.router (take l.import-index l.import-items);
  queued : KeepsQueued l.initial.board l.initial.queue l.board l.queue;
}
