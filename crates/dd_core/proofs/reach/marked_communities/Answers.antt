use Rattle.std.proofs.Common.{◌∙◌, arith, sym, ap, subst, List, ℕ, length}
use Rattle.base_kit.specs.Sets.{IsAscending}
use Rattle.dd_core.proofs.SupportLemmas.{ascending_picked, picked_more, picked_same, picked_end}
use Rattle.dd_core.proofs.reach.marked_communities.Goals.{then-used-place+in_ok-push, else-used-place}
use Rattle.dd_core.proofs.reach.marked_communities.Goals as goal

pub loop-place-preserved : goal.loop-place-preserved
loop-place-preserved c =
    let same = ap (λ (l : List ℕ). length l) c.as_slice-community-items.ensures.all in
    let test = c.loop-place-test.true in
    elim c.if-used-place.branch [
      | then-used-place+in_ok-push w ↦
          rw (w.communities-is, w.in_ok-push.ensures.items, c.as_slice-community-items.ensures.all)
          (picked_more c.args.used.now c.args.universe.now c.loop-place.place c.loop-place.communities.items _ (omega arith) c.loop-place.invariant
          w.if-used-place.true)
      | else-used-place w ↦
          rw w.communities-is (picked_same c.args.used.now c.args.universe.now c.loop-place.place c.loop-place.communities.items _ (omega arith)
          c.loop-place.invariant w.if-used-place.false)
    ]

pub from_ascending-requires : goal.from_ascending-requires
from_ascending-requires c =
    let same = ap (λ (l : List ℕ). length l) c.as_slice-community-items.ensures.all in
    let past = c.loop-place-test.false in
    subst IsAscending (sym (picked_end c.args.used.now c.args.universe.now c.loop-place.place c.loop-place.communities.items _ (omega arith)
    c.loop-place.invariant)) (ascending_picked c.args.used.now 0 c.args.universe.now c.as_slice-community-items.ensures.ascending)

pub returns : goal.returns
returns c =
    let same = ap (λ (l : List ℕ). length l) c.as_slice-community-items.ensures.all in
    let past = c.loop-place-test.false in
    c.from_ascending.ensures ∙ picked_end c.args.used.now c.args.universe.now c.loop-place.place c.loop-place.communities.items _ (omega arith)
    c.loop-place.invariant
