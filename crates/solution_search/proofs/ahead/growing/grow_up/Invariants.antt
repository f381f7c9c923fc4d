use Rattle.srp_core.specs.Problem.{count}
use Rattle.solution_search.specs.Outlooks.{IsGrowing}
use Rattle.solution_search.proofs.ahead.growing.grow_up.Given as goal

abbrev pub invariant-loop-round : goal.invariant-loop-round
invariant-loop-round l = IsGrowing (count l.lookups) l.growing
