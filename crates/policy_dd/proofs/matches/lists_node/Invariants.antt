use Rattle.std.proofs.Common.{◌≤◌, drop, length}
use Rattle.std.specs.List.{list_any}
use Rattle.dd_core.specs.Sets.{Grows, Means, value_of}
use Rattle.policy_dd.specs.Matches.{has_in, list_by}
use Rattle.policy_dd.proofs.matches.lists_node.Given as goal

abbrev pub invariant-loop-place : goal.invariant-loop-place
invariant-loop-place l = record {
  below : l.place ≤ length l.lists;
  grows : Grows l.fn.store l.store;
  any : Means l.store l.any (λ set. list_any (list_by l.fn.store.universe (has_in l.fn.store l.carried set) (value_of l.fn.store set l.carried.others) l.exact)
      (drop l.place l.lists));
}

abbrev pub decreases-loop-place : goal.decreases-loop-place
decreases-loop-place l = l.place
