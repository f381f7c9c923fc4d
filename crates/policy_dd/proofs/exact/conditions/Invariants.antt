use Rattle.std.proofs.Common.{take}
use Rattle.dd_core.specs.Sets.{Grows}
use Rattle.policy_dd.specs.Exact.{AreConditions}
use Rattle.policy_dd.proofs.exact.conditions.Given as goal

abbrev pub invariant-loop-community : goal.invariant-loop-community
invariant-loop-community l = record {
  grows : Grows l.fn.store l.store;
  conditions : AreConditions l.fn.store l.store l.carried (take l.community-index l.communities) l.cases;
}
