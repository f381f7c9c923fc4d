use Rattle.std.proofs.Common.{◌<◌, ◌∙◌, ◌&&◌, ◌||◌, ℕ, Bool, false, List, [], length, get_or, ap, subst, arith}
use Rattle.std.specs.Prelude.{Contains, slice_index_or}
use Rattle.std.specs.List.{list_any}
use Rattle.std.proofs.lemmas.List.{get_or_default}
use Rattle.base_kit.proofs.Elements.{contains_in}
use Rattle.by_key.proofs.KeyedItems.{all_from}
use Rattle.srp_questions.specs.declared.order.Rank.{Rank}
use Rattle.srp_questions.specs.Walks.{is_marked}
use Rattle.srp_questions.proofs.ChainFacts.{next_inside}
use Rattle.srp_questions.proofs.RankWalk.{found_start, found_more, next_right, rank_inside}
use Rattle.srp_questions.proofs.ReadLabels.{read_list}
use Rattle.srp_questions.proofs.WalkSteps.{Told, reach_alone, reach_step}
use Rattle.srp_questions.proofs.walks.reaching_by_rank.Goals as goal

pub loop-rank-init : goal.loop-rank-init
loop-rank-init c =
    let P = c.args.srp.now in
    let L = c.args.labels.now in
    let allowed = c.args.allowed.now in
    let goals = c.args.goals.now in
    let items = c.in_ok-reaching.reaching.items in
    let many = c.requires.allowed in
    let total = c.in_ok-reaching.ensures.total in
    found_start (Told P L allowed goals) P c.count-known.ensures.rules L c.requires.labels c.args.ranks.now c.requires.ranks false items
    (omega (arith, total, many))
    (λ u among alone. reach_alone P L allowed goals u alone (is_marked items u) (c.in_ok-reaching.ensures.each u (omega (arith, among, many))))

pub bounds-hops-router : goal.bounds-hops-router
bounds-hops-router c =
    let first : Rank = record { router = 0; size = 0 } in
    let ranks = c.args.ranks.now in
    let k = c.loop-rank.rank-index in
    let e = slice_index_or ranks k first in
    let inside = rank_inside (Told c.args.srp.now c.args.labels.now c.args.allowed.now c.args.goals.now) c.args.srp.now c.count-known.ensures.rules
    c.args.labels.now c.requires.labels ranks c.requires.ranks false k e c.loop-rank-test.true (get_or_default ranks k first e c.loop-rank-test.true) in
    let total = c.requires.hops.total in
    let same = ap (λ (l : List (List ℕ)). length l) c.as_slice-hops.ensures in
    omega (arith, inside, total, same)

pub is_any_marked-goes_on-requires : goal.is_any_marked-goes_on-requires
is_any_marked-goes_on-requires c =
    let P = c.args.srp.now in
    let L = c.args.labels.now in
    let first : Rank = record { router = 0; size = 0 } in
    let ranks = c.args.ranks.now in
    let k = c.loop-rank.rank-index in
    let e = slice_index_or ranks k first in
    let inside = rank_inside (Told P L c.args.allowed.now c.args.goals.now) P c.count-known.ensures.rules L c.requires.labels ranks c.requires.ranks false k e
    c.loop-rank-test.true (get_or_default ranks k first e c.loop-rank-test.true) in
    let total = c.requires.hops.total in
    let next = c.index-hops-router.result in
    let next_is = read_list c.args.hops.now c.as_slice-hops.result.now e.router next c.as_slice-hops.ensures (omega (arith, inside, total))
    c.index-hops-router.is in
    let are = c.requires.hops.each e.router inside in
    let same = ap (λ (l : List Bool). length l) c.deref.ensures.value in
    let filled = c.loop-rank.invariant.total in
    all_from (λ (v : ℕ). v < length c.deref.result.now) next
    (λ v i. (
    let among = next_inside P c.count-known.ensures.rules L e.router v
    (are.sound v (subst (λ (l : List ℕ). Contains l v) next_is (contains_in next v i))) in
    omega (arith, among, same, filled)))

pub bounds-allowed-router : goal.bounds-allowed-router
bounds-allowed-router c =
    let first : Rank = record { router = 0; size = 0 } in
    let ranks = c.args.ranks.now in
    let k = c.loop-rank.rank-index in
    let e = slice_index_or ranks k first in
    let inside = rank_inside (Told c.args.srp.now c.args.labels.now c.args.allowed.now c.args.goals.now) c.args.srp.now c.count-known.ensures.rules
    c.args.labels.now c.requires.labels ranks c.requires.ranks false k e c.loop-rank-test.true (get_or_default ranks k first e c.loop-rank-test.true) in
    let total = c.requires.allowed in
    omega (arith, inside, total)

pub bounds-goals-router : goal.bounds-goals-router
bounds-goals-router c =
    let first : Rank = record { router = 0; size = 0 } in
    let ranks = c.args.ranks.now in
    let k = c.loop-rank.rank-index in
    let e = slice_index_or ranks k first in
    let inside = rank_inside (Told c.args.srp.now c.args.labels.now c.args.allowed.now c.args.goals.now) c.args.srp.now c.count-known.ensures.rules
    c.args.labels.now c.requires.labels ranks c.requires.ranks false k e c.loop-rank-test.true (get_or_default ranks k first e c.loop-rank-test.true) in
    let total = c.requires.goals in
    omega (arith, inside, total)

pub index_mut-requires : goal.index_mut-requires
index_mut-requires c =
    let first : Rank = record { router = 0; size = 0 } in
    let ranks = c.args.ranks.now in
    let k = c.loop-rank.rank-index in
    let e = slice_index_or ranks k first in
    let inside = rank_inside (Told c.args.srp.now c.args.labels.now c.args.allowed.now c.args.goals.now) c.args.srp.now c.count-known.ensures.rules
    c.args.labels.now c.requires.labels ranks c.requires.ranks false k e c.loop-rank-test.true (get_or_default ranks k first e c.loop-rank-test.true) in
    let same = ap (λ (l : List Bool). length l) c.deref.ensures.value in
    let long = c.deref.ensures.len in
    let filled = c.loop-rank.invariant.total in
    omega (arith, inside, same, long, filled)

pub loop-rank-preserved : goal.loop-rank-preserved
loop-rank-preserved c =
    let P = c.args.srp.now in
    let L = c.args.labels.now in
    let rules = c.count-known.ensures.rules in
    let allowed = c.args.allowed.now in
    let goals = c.args.goals.now in
    let first : Rank = record { router = 0; size = 0 } in
    let ranks = c.args.ranks.now in
    let k = c.loop-rank.rank-index in
    let e = slice_index_or ranks k first in
    let is = get_or_default ranks k first e c.loop-rank-test.true in
    let inside = rank_inside (Told P L allowed goals) P rules L c.requires.labels ranks c.requires.ranks false k e c.loop-rank-test.true is in
    let total = c.requires.hops.total in
    let items = c.loop-rank.reaching.items in
    let next = c.index-hops-router.result in
    let next_is = read_list c.args.hops.now c.as_slice-hops.result.now e.router next c.as_slice-hops.ensures (omega (arith, inside, total))
    c.index-hops-router.is in
    let on = c.is_any_marked-goes_on.ensures ∙ ap (λ (m : List Bool). list_any (is_marked m) c.index-hops-router.result) c.deref.ensures.value
    ∙ ap (list_any (is_marked c.loop-rank.reaching.items)) next_is in
    let new_is = c.reaches.ensures
    ∙ ap (λ (b : Bool). is_marked c.args.allowed.now (slice_index_or c.args.ranks.now c.loop-rank.rank-index (record { router = 0; size = 0 })).router
    && (is_marked c.args.goals.now (slice_index_or c.args.ranks.now c.loop-rank.rank-index (record { router = 0; size = 0 })).router || b)) on in
    found_more (Told P L allowed goals) P rules L c.requires.labels ranks c.requires.ranks false k e c.reaches.result items c.loop-rank-test.true is
    c.loop-rank.invariant
    (reach_step P L allowed goals e.router (get_or c.args.hops.now e.router []) (c.requires.hops.each e.router inside) items
    (next_right (Told P L allowed goals) P rules L c.requires.labels ranks c.requires.ranks false c.args.hops.now c.requires.hops k e c.loop-rank-test.true is
    items c.loop-rank.invariant) c.reaches.result new_is)
