use Rattle.srp_questions.proofs.SizeOrder.{AreRanksUpto}
use Rattle.srp_questions.proofs.order.ranks_by_router.Given as goal

abbrev pub invariant-loop-router : goal.invariant-loop-router
invariant-loop-router l = AreRanksUpto l.labels l.router l.ranks.items
