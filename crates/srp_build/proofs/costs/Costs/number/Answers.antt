use Rattle.srp_build.proofs.CostPlaces.{distinct_costs}
use Rattle.srp_build.proofs.costs.Costs.number.Goals as goal

pub invariant_of-self-2 : goal.invariant_of-self-2
invariant_of-self-2 c = distinct_costs _ c.in_ok-place.ensures.unique

pub returns-clause-distinct : goal.returns-clause-distinct
returns-clause-distinct c = distinct_costs _ c.insert_full.ensures.unique
