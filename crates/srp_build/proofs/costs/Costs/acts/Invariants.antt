use Rattle.std.proofs.Common.{◌≡◌, ◌++◌, drop, map}
use Rattle.srp_core.specs.declared.route.Act.TheVariants.{Cost}
use Rattle.srp_build.proofs.costs.Costs.acts.Given as goal

abbrev pub invariant-loop-cost : goal.invariant-loop-cost
invariant-loop-cost l = l.acts ++ map Cost (drop l.cost-index l.cost-items) ≡ map Cost l.cost-items
