use Rattle.std.proofs.Common.{take}
use Rattle.dd_core.specs.Sets.{Grows}
use Rattle.canon_policy.specs.Nodes.{AreFixed}
use Rattle.canon_policy.proofs.fixed.fixed_nodes.Given as goal

abbrev pub invariant-loop-node : goal.invariant-loop-node
invariant-loop-node l = record {
  grows : Grows l.fn.store l.store;
  fixed : AreFixed l.fn.store l.store l.alone (take l.node-index l.nodes) l.made;
}
