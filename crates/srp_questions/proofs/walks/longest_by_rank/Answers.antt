use Rattle.std.proofs.Common.{◌≡◌, ◌<◌, ◌∙◌, ℕ, List, [], length, get_or, sym, ap, subst, arith}
use Rattle.std.specs.Prelude.{Contains, slice_index_or}
use Rattle.std.proofs.lemmas.List.{get_or_default}
use Rattle.base_kit.proofs.Elements.{contains_in}
use Rattle.by_key.proofs.KeyedItems.{all_from}
use Rattle.srp_questions.specs.declared.order.Rank.{Rank}
use Rattle.srp_questions.specs.Walks.{IsLongest, longest_over}
use Rattle.srp_questions.proofs.ChainFacts.{next_inside}
use Rattle.srp_questions.proofs.RankWalk.{found_start, found_more, next_right, rank_inside}
use Rattle.srp_questions.proofs.ReadLabels.{read_list}
use Rattle.srp_questions.proofs.WalkSteps.{longest_alone, longest_step, few_over, few_more, zeros}
use Rattle.srp_questions.proofs.walks.longest_by_rank.Goals as goal

pub loop-rank-init : goal.loop-rank-init
loop-rank-init c =
    let P = c.args.srp.now in
    let L = c.args.labels.now in
    let items = c.in_ok-lengths.lengths.items in
    let none = c.in_ok-lengths.ensures.items_if_clones_equal (λ y h. h) in
    let total = c.in_ok-lengths.ensures.len in
    let count = c.count.ensures.count in
    record {
      found = found_start (IsLongest P L) P c.count.ensures.rules L c.requires.labels c.args.ranks.now c.requires.ranks 0 items (omega (arith, total, count))
          (λ u among alone. subst (IsLongest P L u) (sym (zeros items c.count.result u none)) (longest_alone P L u alone));
      few = λ u. (let z = zeros items c.count.result u none in omega (arith, z));
    }

pub bounds-hops-router : goal.bounds-hops-router
bounds-hops-router c =
    let first : Rank = record { router = 0; size = 0 } in
    let ranks = c.args.ranks.now in
    let k = c.loop-rank.rank-index in
    let e = slice_index_or ranks k first in
    let inside = rank_inside (IsLongest c.args.srp.now c.args.labels.now) c.args.srp.now c.count.ensures.rules c.args.labels.now c.requires.labels ranks
    c.requires.ranks 0 k e c.loop-rank-test.true (get_or_default ranks k first e c.loop-rank-test.true) in
    let total = c.requires.hops.total in
    let same = ap (λ (l : List (List ℕ)). length l) c.as_slice-hops.ensures in
    omega (arith, inside, total, same)

pub longest_over-requires-clause-inside : goal.longest_over-requires-clause-inside
longest_over-requires-clause-inside c =
    let P = c.args.srp.now in
    let L = c.args.labels.now in
    let first : Rank = record { router = 0; size = 0 } in
    let ranks = c.args.ranks.now in
    let k = c.loop-rank.rank-index in
    let e = slice_index_or ranks k first in
    let inside = rank_inside (IsLongest P L) P c.count.ensures.rules L c.requires.labels ranks c.requires.ranks 0 k e c.loop-rank-test.true
    (get_or_default ranks k first e c.loop-rank-test.true) in
    let total = c.requires.hops.total in
    let next = c.index-hops-router.result in
    let next_is = read_list c.args.hops.now c.as_slice-hops.result.now e.router next c.as_slice-hops.ensures (omega (arith, inside, total))
    c.index-hops-router.is in
    let are = c.requires.hops.each e.router inside in
    let same = ap (λ (l : List ℕ). length l) c.deref.ensures.value in
    let filled = c.loop-rank.invariant.found.total in
    all_from (λ (v : ℕ). v < length c.deref.result.now) next
    (λ v i. (
    let among = next_inside P c.count.ensures.rules L e.router v
    (are.sound v (subst (λ (l : List ℕ). Contains l v) next_is (contains_in next v i))) in
    omega (arith, among, same, filled)))

pub index_mut-requires : goal.index_mut-requires
index_mut-requires c =
    let first : Rank = record { router = 0; size = 0 } in
    let ranks = c.args.ranks.now in
    let k = c.loop-rank.rank-index in
    let e = slice_index_or ranks k first in
    let inside = rank_inside (IsLongest c.args.srp.now c.args.labels.now) c.args.srp.now c.count.ensures.rules c.args.labels.now c.requires.labels ranks
    c.requires.ranks 0 k e c.loop-rank-test.true (get_or_default ranks k first e c.loop-rank-test.true) in
    let same = ap (λ (l : List ℕ). length l) c.deref.ensures.value in
    let long = c.deref.ensures.len in
    let filled = c.loop-rank.invariant.found.total in
    omega (arith, inside, same, long, filled)

pub loop-rank-preserved : goal.loop-rank-preserved
loop-rank-preserved c =
    let P = c.args.srp.now in
    let L = c.args.labels.now in
    let rules = c.count.ensures.rules in
    let first : Rank = record { router = 0; size = 0 } in
    let ranks = c.args.ranks.now in
    let k = c.loop-rank.rank-index in
    let e = slice_index_or ranks k first in
    let is = get_or_default ranks k first e c.loop-rank-test.true in
    let inside = rank_inside (IsLongest P L) P rules L c.requires.labels ranks c.requires.ranks 0 k e c.loop-rank-test.true is in
    let total = c.requires.hops.total in
    let items = c.loop-rank.lengths.items in
    let filled = c.loop-rank.invariant.found.total in
    let next = c.index-hops-router.result in
    let next_is = read_list c.args.hops.now c.as_slice-hops.result.now e.router next c.as_slice-hops.ensures (omega (arith, inside, total))
    c.index-hops-router.is in
    let new = c.longest_over.result in
    let new_is : c.longest_over.result ≡ longest_over c.loop-rank.lengths.items (get_or c.args.hops.now
    (slice_index_or c.args.ranks.now c.loop-rank.rank-index (record { router = 0; size = 0 })).router []) =
    c.longest_over.ensures ∙ ap (λ (l : List ℕ). longest_over l c.index-hops-router.result) c.deref.ensures.value
    ∙ ap (longest_over c.loop-rank.lengths.items) next_is in
    let right = longest_step P L e.router (get_or c.args.hops.now e.router []) (c.requires.hops.each e.router inside) items
    (next_right (IsLongest P L) P rules L c.requires.labels ranks c.requires.ranks 0 c.args.hops.now c.requires.hops k e c.loop-rank-test.true is items
    c.loop-rank.invariant.found) in
    let few = few_over items (get_or c.args.hops.now e.router []) k c.loop-rank.invariant.few in
    record {
      found = found_more (IsLongest P L) P rules L c.requires.labels ranks c.requires.ranks 0 k e new items c.loop-rank-test.true is c.loop-rank.invariant.found
          (subst (IsLongest P L e.router) (sym new_is) right);
      few = few_more items e.router new k (omega (arith, inside, filled)) c.loop-rank.invariant.few (omega (arith, few, new_is));
    }
