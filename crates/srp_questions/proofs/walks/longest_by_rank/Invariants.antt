use Rattle.std.proofs.Common.{◌≤◌, ℕ}
use Rattle.std.specs.Prelude.{slice_index}
use Rattle.srp_questions.specs.Walks.{IsLongest}
use Rattle.srp_questions.proofs.RankWalk.{IsFound}
use Rattle.srp_questions.proofs.walks.longest_by_rank.Given as goal

abbrev pub invariant-loop-rank : goal.invariant-loop-rank
invariant-loop-rank l = record {
  found : IsFound (IsLongest l.srp l.labels) l.srp l.labels l.ranks 0 l.rank-index l.lengths.items;
  few : (u : ℕ) → slice_index l.lengths.items u ≤ l.rank-index;
}
