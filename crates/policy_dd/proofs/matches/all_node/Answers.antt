use Rattle.std.proofs.Common.{◌≡◌, ◌-◌, ◌∙◌, ap, arith, get_or, List, ℕ}
use Rattle.base_kit.specs.Sets.{has}
use Rattle.dd_core.proofs.ShownLemmas.{grows_refl, grows_trans, grows_inside}
use Rattle.policy_dd.proofs.MatchLemmas.{inside_kept, all_step, all_none, drop_before, within_at}
use Rattle.policy_dd.proofs.matches.all_node.Goals as goal

pub loop-place-init : goal.loop-place-init
loop-place-init c = record {
  below = omega arith;
  grows = grows_refl c.args.store.now;
  all = all_none c.args.store.now c.args.carried.now c.args.communities.now _ _ (omega arith) c.constant-all.ensures.constant;
}

pub condition-requires-clause-inside : goal.condition-requires-clause-inside
condition-requires-clause-inside c = inside_kept _ _ _ c.loop-place.invariant.grows c.requires.inside

pub condition-requires-clause-known : goal.condition-requires-clause-known
condition-requires-clause-known c =
    let some = c.loop-place-test.true in
    let below = c.loop-place.invariant.below in
    ap (λ (u : List ℕ). has u (get_or c.args.communities.now (c.loop-place.place - 1) 0)) c.loop-place.invariant.grows.universe
    ∙ within_at c.args.store.now.universe c.args.communities.now (c.loop-place.place - 1) c.requires.known (omega arith)

pub and-requires-clause-b_inside : goal.and-requires-clause-b_inside
and-requires-clause-b_inside c = grows_inside _ _ _ c.in_ok-here.ensures.grows c.loop-place.invariant.all.inside

pub loop-place-preserved : goal.loop-place-preserved
loop-place-preserved c =
    let some = c.loop-place-test.true in
    let below = c.loop-place.invariant.below in
    record {
      below = omega arith;
      grows = grows_trans _ _ _ (grows_trans _ _ _ c.loop-place.invariant.grows c.in_ok-here.ensures.grows) c.in_ok-all.ensures.grows;
      all = rw (drop_before c.args.communities.now c.loop-place.place 0 some below)
          (all_step c.args.store.now c.loop-place.store c.condition.new.store c.and.new.self c.args.carried.now _ _ c.loop-place.all c.in_ok-here.here
          c.in_ok-all.all c.requires.inside c.loop-place.invariant.grows c.in_ok-here.ensures.grows c.loop-place.invariant.all
          c.in_ok-here.ensures.condition c.in_ok-all.ensures.and);
    }

pub returns-clause-all : goal.returns-clause-all
returns-clause-all c =
    let none = c.loop-place-test.false in
    let e : c.loop-place.place ≡ 0 = omega arith in
    rw e at c.loop-place.invariant.all

pub returns-in_err-here-clause-grows : goal.returns-in_err-here-clause-grows
returns-in_err-here-clause-grows c = grows_trans _ _ _ c.loop-place.invariant.grows c.in_err-here.ensures.grows

pub returns-in_err-all-clause-grows : goal.returns-in_err-all-clause-grows
returns-in_err-all-clause-grows c = grows_trans _ _ _ (grows_trans _ _ _ c.loop-place.invariant.grows c.in_ok-here.ensures.grows) c.in_err-all.ensures.grows
