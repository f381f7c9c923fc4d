use Rattle.std.proofs.Common.{◌≡◌, ◌++◌, drop, filter, nat_eq}
use Rattle.std.specs.HashSet as set
use Rattle.abstract_net.specs.GroupSteps.{first_new, goes_into, edges_into}
use Rattle.abstract_net.proofs.runs.first_edges.Given as goal

abbrev pub invariant-loop-step : goal.invariant-loop-step
invariant-loop-step l = l.edges.items ++ first_new (λ act. set.contains nat_eq l.met act) (filter (goes_into l.into_low) (drop l.step-index l.run)) ≡ edges_into
    l.into_low l.run
