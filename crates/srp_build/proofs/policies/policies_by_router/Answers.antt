use Rattle.std.proofs.Common.{◌≡◌, ◌+◌, ℕ, List, take, get_or, sym, subst}
use Rattle.std.proofs.lemmas.Option.{get_or_from_slice_get}
use Rattle.srp_build.specs.LinePolicies.{HavePolicies}
use Rattle.srp_build.proofs.PolicyMaps.{has_item}
use Rattle.srp_build.proofs.LinePolicyLemmas.{have_next}
use Rattle.srp_build.proofs.policies.policies_by_router.Goals as goal

pub loop-at-preserved : goal.loop-at-preserved
loop-at-preserved c =
    let routers = c.args.routers.now in
    let i = c.loop-at.at in
    let old = c.loop-at.table.firsts.items in
    let new = c.policies_of_router.new.table.firsts.items in
    let kept = c.in_ok-numbers.ensures.kept in
    let there = has_item routers i c.loop-at-test.true in
    let read : there.item ≡ get_or routers i there.item = sym (get_or_from_slice_get routers i there.item there.item there.at) in
    record {
      have = subst (λ (t : List (List ℕ)). HavePolicies routers c.args.inbound new (take (i + 1) routers) t) (sym c.in_ok-push.ensures.ok)
          (have_next routers c.args.inbound old new routers i there.item c.loop-at.by_router c.in_ok-numbers.numbers c.loop-at-test.true read kept
          c.loop-at.invariant.have (c.in_ok-numbers.ensures.policies there.item there.at));
      fixed = c.in_ok-numbers.ensures.fixed;
      kept = λ k policy at. kept k policy (c.loop-at.invariant.kept k policy at);
    }
