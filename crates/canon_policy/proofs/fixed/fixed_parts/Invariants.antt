use Rattle.std.proofs.Common.{take}
use Rattle.dd_core.specs.Sets.{Grows}
use Rattle.canon_policy.specs.Nodes.{ArePartsFixed}
use Rattle.canon_policy.proofs.fixed.fixed_parts.Given as goal

abbrev pub invariant-loop-part : goal.invariant-loop-part
invariant-loop-part l = record {
  grows : Grows l.fn.store l.store;
  fixed : ArePartsFixed l.fn.store l.store l.alone (take l.part-index l.parts) l.made;
}
