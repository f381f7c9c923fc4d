use Rattle.srp_core.specs.Problem.{count}
use Rattle.solution_search.specs.Outlooks.{IsGrowing}
use Rattle.solution_search.proofs.ahead.growing.grow.Given as goal

abbrev pub invariant-loop-from : goal.invariant-loop-from
invariant-loop-from l = IsGrowing (count l.lookups) l.growing
