use Rattle.std.proofs.Common.{ℕ, get_or, nat_eq}
use Rattle.std.proofs.lemmas.List.{take_more, take_all}
use Rattle.std.proofs.lemmas.List.Filters.{All-dedup, dedup_is}
use Rattle.std.proofs.lemmas.List.Kept.{Contains-dedup_nat}
use Rattle.std.proofs.lemmas.List.Sorted.{All-permutation, Contains-permutation}
use Rattle.std.proofs.lemmas.Map.Keys.{IsStrictlyIncreasing-dedup}
use Rattle.refine_partition.proofs.QueueLemmas.{touched_again, touched_more, touched_kept}
use Rattle.refine_partition.proofs.touched.list_touched.Goals as goal
use Rattle.refine_partition.proofs.touched.list_touched.Goals.{then-not-is_last+in_ok-push, else-not-is_last}

pub loop-router-preserved : goal.loop-router-preserved
loop-router-preserved c =
    let router : ℕ = get_or c.args.routers.now c.loop-router.router-index 0 in
    let more = take_more c.args.routers.now c.loop-router.router-index 0 c.loop-router-test.true in
    elim c.if-not-is_last.branch [
      | then-not-is_last+in_ok-push w ↦
          rw (more, w.blocks-is, w.in_ok-push.ensures.items) (touched_more _ _ router _ c.loop-router.invariant)
      | else-not-is_last w ↦
          let there = rw c.deref.ensures.value at (c.is_last.ensures.there w.if-not-is_last.false) in
          rw (more, w.blocks-is) (touched_again _ _ router _ c.loop-router.invariant there)
    ]

pub returns-then-are_in_order-clause-touched : goal.returns-then-are_in_order-clause-touched
returns-then-are_in_order-clause-touched c = rw (take_all c.loop-router.router-index c.args.routers.now c.loop-router-test.false) at c.loop-router.invariant

pub returns-then-are_in_order-clause-in_order : goal.returns-then-are_in_order-clause-in_order
returns-then-are_in_order-clause-in_order c = rw c.deref-2.ensures.value at (c.are_in_order.ensures c.if-are_in_order.true)

pub returns-clause-in_order : goal.returns-clause-in_order
returns-clause-in_order c = rw (dedup_is nat_eq _ _ c.dedup.ensures.filtered) (IsStrictlyIncreasing-dedup _ c.in_ok-sort.ensures.sorted)

pub returns-clause-touched : goal.returns-clause-touched
returns-clause-touched c =
    let whole = rw (take_all c.loop-router.router-index c.args.routers.now c.loop-router-test.false) at c.loop-router.invariant in
    let sorted = c.in_ok-sort.ensures.permutation in
    rw (dedup_is nat_eq _ _ c.dedup.ensures.filtered) (touched_kept _ _ _ _ whole (λ P all. All-dedup _ P _ (All-permutation P _ _ sorted all))
    (λ x there. Contains-dedup_nat _ x (Contains-permutation _ _ x sorted there)))
