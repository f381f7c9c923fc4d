use Rattle.std.proofs.Common.{take}
use Rattle.canon_policy.specs.Made.{NoneNeedsOthers}
use Rattle.canon_policy.proofs.others.any_needs_others.Given as goal

abbrev pub invariant-loop-node : goal.invariant-loop-node
invariant-loop-node l = NoneNeedsOthers l.store (take l.node-index l.nodes)
