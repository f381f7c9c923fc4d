use Rattle.std.proofs.Common.{◌≤◌, ◌+◌, ◌-◌, length}
use Rattle.std.specs.Prelude.{vec_len, vec_capacity}
use Rattle.abstract_net.specs.Early.{AreEarly}
use Rattle.abstract_net.proofs.steps.early_steps.Given as goal

abbrev pub invariant-loop-start : goal.invariant-loop-start
invariant-loop-start l = record {
  within : l.start ≤ length l.edges;
  early : AreEarly l.edges l.p l.start l.steps.items;
}

abbrev pub decreases-loop-start : goal.decreases-loop-start
decreases-loop-start l = length l.edges - l.start

abbrev pub invariant-loop-place : goal.invariant-loop-place
invariant-loop-place l = record {
  early : AreEarly l.edges l.p l.place l.steps.items;
  room : vec_len l.steps + (length l.edges - l.place) ≤ vec_capacity l.steps;
}
