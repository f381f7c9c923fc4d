use Rattle.std.proofs.Common.{take}
use Rattle.dd_core.specs.Sets.{Grows}
use Rattle.policy_dd.specs.After.{carries_on}
use Rattle.policy_dd.specs.Tables.{IsTabled}
use Rattle.policy_dd.proofs.after.carried_outs.Given as goal

abbrev pub invariant-loop-key : goal.invariant-loop-key
invariant-loop-key l = record {
  grows : Grows l.fn.store l.store;
  outs : IsTabled l.store (λ k set. carries_on l.fn.store l.carried l.m set k) (take l.key-index l.keys) l.outs;
}
