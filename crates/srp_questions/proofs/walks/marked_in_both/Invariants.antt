use Rattle.std.proofs.Common.{◌≡◌, ◌<◌, ◌&&◌, ℕ, length}
use Rattle.srp_questions.specs.Walks.{is_marked}
use Rattle.srp_questions.proofs.walks.marked_in_both.Given as goal

abbrev pub invariant-loop-router : goal.invariant-loop-router
invariant-loop-router l = record {
  total : length l.both.items ≡ l.router;
  each : (u : ℕ) → u < l.router → is_marked l.both.items u ≡ (is_marked l.first u && is_marked l.second u);
}
