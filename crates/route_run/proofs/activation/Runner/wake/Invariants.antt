use Rattle.std.proofs.Common.{◌≡◌, ℕ, true, length}
use Rattle.std.specs.Prelude.{filter_map}
use Rattle.refine_partition.specs.Index.{import_from}
use Rattle.route_run.specs.Rests.{is_at_rest}
use Rattle.route_run.proofs.KnownRests.{AreWoken}
use Rattle.route_run.proofs.activation.Runner.wake.Given as goal

abbrev pub invariant-loop-import : goal.invariant-loop-import
invariant-loop-import l = record {
  all : l.import-items ≡ filter_map (import_from l.router) l.self.edges;
  total : length l.rests.items ≡ length l.initial.rests.items;
  still : (u : ℕ) → is_at_rest l.rests.items u ≡ true → is_at_rest l.initial.rests.items u ≡ true;
  woken : AreWoken l.rests.items l.import-items l.import-index;
}
