use Rattle.std.proofs.Common.{◌≡◌, ◌+◌, ◌++◌, ◌∷◌, [], ◌∙◌, List, ℕ, take, get_or, ap, arith, subst}
use Rattle.std.proofs.lemmas.List.{take_more, take_all}
use Rattle.base_kit.specs.Sets.{has}
use Rattle.dd_core.specs.Sets.{Means}
use Rattle.dd_core.proofs.ShownLemmas.{grows_refl, grows_trans}
use Rattle.policy_dd.specs.After.{carries_on}
use Rattle.policy_dd.specs.Tables.{IsTabled}
use Rattle.policy_dd.proofs.MatchLemmas.{inside_kept, within_at, means_at}
use Rattle.policy_dd.proofs.RunLemmas.{map_inside_kept}
use Rattle.policy_dd.proofs.AfterLemmas.{tabled_none, tabled_more, carries_kept}
use Rattle.policy_dd.proofs.after.carried_outs.Goals as goal

pub carried_on-requires-clause-inside : goal.carried_on-requires-clause-inside
carried_on-requires-clause-inside c = inside_kept _ _ _ c.loop-key.invariant.grows c.requires.inside

pub carried_on-requires-clause-map_inside : goal.carried_on-requires-clause-map_inside
carried_on-requires-clause-map_inside c = map_inside_kept _ _ _ c.loop-key.invariant.grows c.requires.map_inside

pub carried_on-requires-clause-known : goal.carried_on-requires-clause-known
carried_on-requires-clause-known c =
    ap (λ (u : List ℕ). has u (get_or c.args.keys.now c.loop-key.key-index 0)) c.loop-key.invariant.grows.universe
    ∙ within_at c.args.store.now.universe c.args.keys.now c.loop-key.key-index c.requires.known c.loop-key-test.true

pub loop-key-init : goal.loop-key-init
loop-key-init c = record {
  grows = grows_refl c.args.store.now;
  outs =
      rw c.new-outs.ensures (tabled_none c.args.store.now (λ k set. carries_on c.args.store.now c.args.carried.now c.args.m.now set k));
}

pub loop-key-preserved : goal.loop-key-preserved
loop-key-preserved c =
    let e : take (c.loop-key.key-index + 1) c.args.keys.now ≡ take c.loop-key.key-index c.args.keys.now ++ get_or c.args.keys.now c.loop-key.key-index 0 ∷ [] =
    take_more c.args.keys.now c.loop-key.key-index 0 c.loop-key-test.true in
    let node : Means c.carried_on.new.store c.in_ok-node.node
    (λ set. carries_on c.args.store.now c.args.carried.now c.args.m.now set (get_or c.args.keys.now c.loop-key.key-index 0)) =
    means_at _ _ _ _ c.in_ok-node.ensures.carries (λ set. carries_kept c.args.store.now c.loop-key.store c.args.carried.now c.args.m.now set
    (get_or c.args.keys.now c.loop-key.key-index 0) c.loop-key.invariant.grows c.requires.inside c.requires.map_inside) in
    record {
      grows = grows_trans _ _ _ c.loop-key.invariant.grows c.in_ok-node.ensures.grows;
      outs = rw (e, c.in_ok-push.ensures.ok) (tabled_more c.loop-key.store c.carried_on.new.store
          (λ k set. carries_on c.args.store.now c.args.carried.now c.args.m.now set k) (take c.loop-key.key-index c.args.keys.now) c.loop-key.outs
          (get_or c.args.keys.now c.loop-key.key-index 0) c.in_ok-node.node c.in_ok-node.ensures.grows c.loop-key.invariant.outs node);
    }

pub returns-clause-outs : goal.returns-clause-outs
returns-clause-outs c =
    let e : take c.loop-key.key-index c.args.keys.now ≡ c.args.keys.now = take_all c.loop-key.key-index c.args.keys.now (omega arith) in
    subst (λ (l : List ℕ). IsTabled c.loop-key.store (λ k set. carries_on c.args.store.now c.args.carried.now c.args.m.now set k) l c.loop-key.outs) e
    c.loop-key.invariant.outs

pub returns-in_err-node-clause-grows : goal.returns-in_err-node-clause-grows
returns-in_err-node-clause-grows c = grows_trans _ _ _ c.loop-key.invariant.grows c.in_err-node.ensures.grows

pub returns-in_err-push-clause-grows : goal.returns-in_err-push-clause-grows
returns-in_err-push-clause-grows c = grows_trans _ _ _ c.loop-key.invariant.grows c.in_ok-node.ensures.grows
