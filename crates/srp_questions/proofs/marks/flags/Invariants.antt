use Rattle.std.proofs.Common.{◌≡◌, ◌<◌, ℕ, not, cond, length, take}
use Rattle.base_kit.specs.Sets.{has}
use Rattle.srp_questions.specs.Walks.{is_marked}
use Rattle.srp_questions.proofs.marks.flags.Given as goal

abbrev pub invariant-loop-router : goal.invariant-loop-router
invariant-loop-router l = record {
  total : length l.flags.items ≡ l.count;
  each : (u : ℕ) → u < l.count → is_marked l.flags.items u ≡ cond (has (take l.router-index l.router-items) u) l.inside (not l.inside);
}
