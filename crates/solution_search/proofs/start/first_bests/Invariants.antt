use Rattle.std.proofs.Common.{◌≡◌, ℕ, ◌<◌, length}
use Rattle.srp_core.specs.Problem.{initial}
use Rattle.solution_search.specs.Boards.{best_at}
use Rattle.solution_search.specs.Offers.{OffersRoute}
use Rattle.solution_search.proofs.start.first_bests.Given as goal

abbrev pub invariant-loop-initial : goal.invariant-loop-initial
invariant-loop-initial l = record {
  total : length l.bests.items ≡ l.initial-index;
  each : (u : ℕ) → u < l.initial-index → OffersRoute l.lookups (initial l.lookups u) (best_at l.bests.items u);
}
