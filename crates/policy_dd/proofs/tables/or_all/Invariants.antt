use Rattle.std.proofs.Common.{◌&&◌, take}
use Rattle.base_kit.specs.Sets.{has}
use Rattle.dd_core.specs.Sets.{Grows, value_of}
use Rattle.policy_dd.specs.Tables.{IsTableGrown}
use Rattle.policy_dd.proofs.tables.or_all.Given as goal

abbrev pub invariant-loop-key : goal.invariant-loop-key
invariant-loop-key l = record {
  grows : Grows l.fn.store l.store;
  more : IsTableGrown l.fn.store l.store l.fn.cases l.all (take l.key-index l.keys)
      (λ k set. has (take l.key-index l.keys) k && value_of l.fn.store set l.node);
}
