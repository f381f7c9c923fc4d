use Rattle.std.proofs.Common.{◌≡◌, take}
use Rattle.srp_questions.specs.Walks.{longest_over}
use Rattle.srp_questions.proofs.walks.longest_over.Given as goal

abbrev pub invariant-loop-router : goal.invariant-loop-router
invariant-loop-router l = l.most ≡ longest_over l.lengths (take l.router-index l.router-items)
