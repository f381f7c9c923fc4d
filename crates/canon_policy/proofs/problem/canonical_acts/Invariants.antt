use Rattle.std.proofs.Common.{take}
use Rattle.dd_core.specs.Sets.{Grows}
use Rattle.canon_policy.specs.MadeActs.{AreActsSoFar}
use Rattle.canon_policy.proofs.problem.canonical_acts.Given as goal

abbrev pub invariant-loop-place : goal.invariant-loop-place
invariant-loop-place l = record {
  grows : Grows l.fn.store l.store;
  so_far : AreActsSoFar l.fn.store.universe l.srp (take l.place l.srp.edges) l.made.items l.done.items;
}
