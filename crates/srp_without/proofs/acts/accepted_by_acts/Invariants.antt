use Rattle.std.proofs.Common.{take}
use Rattle.dd_core.specs.Sets.{Grows}
use Rattle.srp_without.specs.Accepting.{AreOfActs}
use Rattle.srp_without.proofs.acts.accepted_by_acts.Given as goal

abbrev pub invariant-loop-act : goal.invariant-loop-act
invariant-loop-act l = record {
  grows : Grows l.fn.store l.store;
  accepted : AreOfActs (take l.act-index l.acts) l.accepted.items;
}
