use Rattle.std.proofs.Common.{false}
use Rattle.std.specs.Prelude.{MatchBool}
use Rattle.srp_questions.specs.Walks.{Reaches}
use Rattle.srp_questions.proofs.RankWalk.{IsFound}
use Rattle.srp_questions.proofs.walks.reaching_by_rank.Given as goal

abbrev pub invariant-loop-rank : goal.invariant-loop-rank
invariant-loop-rank l =
    IsFound (λ u b. MatchBool b (Reaches l.srp l.labels l.allowed l.goals u) (¬ Reaches l.srp l.labels l.allowed l.goals u)) l.srp l.labels l.ranks false
    l.rank-index l.reaching.items
