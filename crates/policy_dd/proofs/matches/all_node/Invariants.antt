use Rattle.std.proofs.Common.{◌≤◌, drop, length}
use Rattle.std.specs.List.{list_all}
use Rattle.dd_core.specs.Sets.{Grows, Means}
use Rattle.policy_dd.specs.Matches.{has_in}
use Rattle.policy_dd.proofs.matches.all_node.Given as goal

abbrev pub invariant-loop-place : goal.invariant-loop-place
invariant-loop-place l = record {
  below : l.place ≤ length l.communities;
  grows : Grows l.fn.store l.store;
  all : Means l.store l.all (λ set. list_all (has_in l.fn.store l.carried set) (drop l.place l.communities));
}

abbrev pub decreases-loop-place : goal.decreases-loop-place
decreases-loop-place l = l.place
