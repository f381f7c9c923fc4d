use Rattle.std.proofs.Common.{◌&&◌, not, false, take}
use Rattle.base_kit.specs.Sets.{has}
use Rattle.dd_core.specs.Sets.{Grows, value_of}
use Rattle.policy_dd.specs.Edge.{case_or, keys_of}
use Rattle.policy_dd.specs.Tables.{IsTableGrown}
use Rattle.policy_dd.proofs.either.or_unless.Given as goal

abbrev pub invariant-loop-case : goal.invariant-loop-case
invariant-loop-case l = record {
  grows : Grows l.fn.store l.store;
  more : IsTableGrown l.fn.store l.store l.fn.cases l.all (keys_of (take l.case-index l.more))
      (λ k set. has (keys_of (take l.case-index l.more)) k && (not (value_of l.fn.store set l.unless) && case_or l.fn.store set l.more k false));
}
