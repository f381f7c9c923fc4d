use Rattle.std.proofs.Common.{◌&&◌, take}
use Rattle.dd_core.specs.Sets.{Grows, value_of}
use Rattle.policy_dd.specs.Edge.{carried_by_rest}
use Rattle.policy_dd.specs.Matches.{has_in}
use Rattle.policy_dd.specs.Tables.{IsSelection}
use Rattle.policy_dd.proofs.join.outs_of.Given as goal

abbrev pub invariant-loop-key : goal.invariant-loop-key
invariant-loop-key l = record {
  grows : Grows l.fn.store l.store;
  outs : IsSelection l.store (carried_by_rest l.fn.store l.rest) (λ k set. value_of l.fn.store set l.permit && has_in l.fn.store l.carried set k)
      (take l.key-index l.keys) l.outs;
}
