use Rattle.srp_core.specs.Problem.{count}
use Rattle.solution_search.specs.Outlooks.{IsGrowing}
use Rattle.solution_search.proofs.ahead.growing.put_all_first.Given as goal

abbrev pub invariant-loop-router : goal.invariant-loop-router
invariant-loop-router l = IsGrowing (count l.lookups) l.growing
