use Rattle.std.proofs.Common.{◌&&◌, false, take}
use Rattle.dd_core.specs.Sets.{Grows, value_of}
use Rattle.policy_dd.specs.Edge.{case_or, keys_of, never}
use Rattle.policy_dd.specs.Tables.{IsSelection}
use Rattle.policy_dd.proofs.join.limit.Given as goal

abbrev pub invariant-loop-case : goal.invariant-loop-case
invariant-loop-case l = record {
  grows : Grows l.fn.store l.store;
  limited : IsSelection l.store never (λ k set. case_or l.fn.store set l.cases k false && value_of l.fn.store set l.with) (keys_of (take l.case-index l.cases))
      l.limited;
}
