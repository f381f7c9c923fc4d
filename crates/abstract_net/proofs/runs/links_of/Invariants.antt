use Rattle.std.proofs.Common.{◌≡◌, ◌≤◌, ◌-◌, ◌++◌, length, drop}
use Rattle.abstract_net.specs.GroupSteps.{links_of_steps}
use Rattle.abstract_net.proofs.runs.links_of.Given as goal

abbrev pub invariant-loop-start : goal.invariant-loop-start
invariant-loop-start l = record {
  within : l.start ≤ length l.steps;
  so_far : l.links ++ links_of_steps (drop l.start l.steps) ≡ links_of_steps l.steps;
}

abbrev pub decreases-loop-start : goal.decreases-loop-start
decreases-loop-start l = length l.steps - l.start
