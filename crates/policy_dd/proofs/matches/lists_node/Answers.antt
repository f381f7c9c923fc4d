use Rattle.std.proofs.Common.{◌≡◌, ◌-◌, arith}
use Rattle.route_maps.specs.Within.{IsListWithin}
use Rattle.dd_core.proofs.ShownLemmas.{grows_refl, grows_trans, grows_inside}
use Rattle.policy_dd.proofs.MatchLemmas.{inside_kept, lists_step, lists_none, drop_item, all_at}
use Rattle.policy_dd.proofs.matches.lists_node.Goals as goal

pub loop-place-init : goal.loop-place-init
loop-place-init c = record {
  below = omega arith;
  grows = grows_refl c.args.store.now;
  any = lists_none c.args.store.now c.args.carried.now c.args.exact c.args.lists.now _ _ (omega arith) c.constant-any.ensures.constant;
}

pub answer_node-requires-clause-inside : goal.answer_node-requires-clause-inside
answer_node-requires-clause-inside c = inside_kept _ _ _ c.loop-place.invariant.grows c.requires.inside

pub answer_node-requires-clause-known : goal.answer_node-requires-clause-known
answer_node-requires-clause-known c =
    let some = c.loop-place-test.true in
    let below = c.loop-place.invariant.below in
    rw (c.as_slice.ensures, c.loop-place.invariant.grows.universe)
    (all_at (IsListWithin c.args.store.now.universe) c.args.lists.now (c.loop-place.place - 1) c.index-lists-place.result c.requires.known (omega arith)
    c.index-lists-place.is)

pub loop-place-preserved : goal.loop-place-preserved
loop-place-preserved c =
    let some = c.loop-place-test.true in
    let below = c.loop-place.invariant.below in
    record {
      below = omega arith;
      grows = grows_trans _ _ _ (grows_trans _ _ _ c.loop-place.invariant.grows c.in_ok-here.ensures.grows) c.in_ok-any.ensures.grows;
      any = lists_step c.args.store.now c.loop-place.store c.answer_node.new.store c.or.new.self c.args.carried.now c.args.exact _ _ c.index-lists-place.result
          c.as_slice.result.now c.loop-place.any c.in_ok-here.here c.in_ok-any.any c.as_slice.ensures c.requires.inside
          (drop_item c.args.lists.now c.loop-place.place c.index-lists-place.result some below c.index-lists-place.is) c.loop-place.invariant.grows
          c.in_ok-here.ensures.grows c.loop-place.invariant.any c.in_ok-here.ensures.answer c.in_ok-any.ensures.or;
    }

pub returns-clause-lists : goal.returns-clause-lists
returns-clause-lists c =
    let none = c.loop-place-test.false in
    let e : c.loop-place.place ≡ 0 = omega arith in
    rw e at c.loop-place.invariant.any

pub or-requires-clause-b_inside : goal.or-requires-clause-b_inside
or-requires-clause-b_inside c = grows_inside _ _ _ c.in_ok-here.ensures.grows c.loop-place.invariant.any.inside

pub returns-in_err-here-clause-grows : goal.returns-in_err-here-clause-grows
returns-in_err-here-clause-grows c = grows_trans _ _ _ c.loop-place.invariant.grows c.in_err-here.ensures.grows

pub returns-in_err-any-clause-grows : goal.returns-in_err-any-clause-grows
returns-in_err-any-clause-grows c = grows_trans _ _ _ (grows_trans _ _ _ c.loop-place.invariant.grows c.in_ok-here.ensures.grows) c.in_err-any.ensures.grows
