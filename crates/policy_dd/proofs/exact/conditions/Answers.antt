use Rattle.std.proofs.Common.{◌≡◌, ◌+◌, ◌++◌, ◌∷◌, [], ◌∙◌, List, ℕ, take, get_or, ap, arith, subst}
use Rattle.std.proofs.lemmas.List.{take_more, take_all}
use Rattle.base_kit.specs.Sets.{has}
use Rattle.dd_core.specs.Sets.{Means}
use Rattle.dd_core.proofs.ShownLemmas.{grows_refl, grows_trans}
use Rattle.policy_dd.specs.Exact.{AreConditions}
use Rattle.policy_dd.specs.Matches.{has_in}
use Rattle.policy_dd.proofs.ExactLemmas.{no_conditions, conditions_more}
use Rattle.policy_dd.proofs.MatchLemmas.{inside_kept, within_at, means_at, has_in_kept}
use Rattle.policy_dd.proofs.exact.conditions.Goals as goal

pub condition-requires-clause-inside : goal.condition-requires-clause-inside
condition-requires-clause-inside c = inside_kept _ _ _ c.loop-community.invariant.grows c.requires.inside

pub condition-requires-clause-known : goal.condition-requires-clause-known
condition-requires-clause-known c =
    ap (λ (u : List ℕ). has u (get_or c.args.communities.now c.loop-community.community-index 0)) c.loop-community.invariant.grows.universe
    ∙ within_at c.args.store.now.universe c.args.communities.now c.loop-community.community-index c.requires.known c.loop-community-test.true

pub loop-community-init : goal.loop-community-init
loop-community-init c = record { grows = grows_refl c.args.store.now; conditions = rw c.new-cases.ensures (no_conditions c.args.store.now c.args.carried.now) }

pub loop-community-preserved : goal.loop-community-preserved
loop-community-preserved c =
    let e : take (c.loop-community.community-index + 1) c.args.communities.now ≡ take c.loop-community.community-index c.args.communities.now
    ++ get_or c.args.communities.now c.loop-community.community-index 0 ∷ [] =
    take_more c.args.communities.now c.loop-community.community-index 0 c.loop-community-test.true in
    let node : Means c.condition.new.store c.in_ok-node.node
    (λ set. has_in c.args.store.now c.args.carried.now set (get_or c.args.communities.now c.loop-community.community-index 0)) =
    means_at _ _ _ _ c.in_ok-node.ensures.condition (λ set. has_in_kept c.args.store.now c.loop-community.store c.args.carried.now set
    (get_or c.args.communities.now c.loop-community.community-index 0) c.loop-community.invariant.grows c.requires.inside) in
    record {
      grows = grows_trans _ _ _ c.loop-community.invariant.grows c.in_ok-node.ensures.grows;
      conditions = rw (e, c.in_ok-push.ensures.ok) (conditions_more c.args.store.now c.loop-community.store c.condition.new.store c.args.carried.now
          (take c.loop-community.community-index c.args.communities.now) c.loop-community.cases
          (get_or c.args.communities.now c.loop-community.community-index 0) c.in_ok-node.node c.in_ok-node.ensures.grows
          c.loop-community.invariant.conditions node);
    }

pub returns-clause-conditions : goal.returns-clause-conditions
returns-clause-conditions c =
    let e : take c.loop-community.community-index c.args.communities.now ≡ c.args.communities.now =
    take_all c.loop-community.community-index c.args.communities.now (omega arith) in
    subst (λ (l : List ℕ). AreConditions c.args.store.now c.loop-community.store c.args.carried.now l c.loop-community.cases) e
    c.loop-community.invariant.conditions

pub returns-in_err-node-clause-grows : goal.returns-in_err-node-clause-grows
returns-in_err-node-clause-grows c = grows_trans _ _ _ c.loop-community.invariant.grows c.in_err-node.ensures.grows

pub returns-in_err-push-clause-grows : goal.returns-in_err-push-clause-grows
returns-in_err-push-clause-grows c = grows_trans _ _ _ c.loop-community.invariant.grows c.in_ok-node.ensures.grows
