use Rattle.std.proofs.Common.{◌≡◌, ◌+◌, ◌&&◌, ◌++◌, ◌∷◌, [], ◌∙◌, ap, sym, arith, subst, take, get_or, true, List, ℕ}
use Rattle.std.proofs.lemmas.List.{take_more, take_all}
use Rattle.base_kit.specs.Sets.{has, IsAscending}
use Rattle.dd_core.specs.Sets.{value_of}
use Rattle.dd_core.proofs.ShownLemmas.{grows_trans, grows_inside}
use Rattle.policy_dd.specs.Edge.{carried_by_rest}
use Rattle.policy_dd.specs.Matches.{has_in}
use Rattle.policy_dd.specs.Tables.{IsSelection}
use Rattle.policy_dd.proofs.MatchLemmas.{inside_kept}
use Rattle.policy_dd.proofs.SelectionLemmas.{selection_none, below_number, has_index}
use Rattle.policy_dd.proofs.JoinLemmas.{out_step, outs_are}
use Rattle.policy_dd.proofs.join.outs_of.Goals as goal

pub is_same-few-requires-clause-b_inside : goal.is_same-few-requires-clause-b_inside
is_same-few-requires-clause-b_inside c = grows_inside _ _ _ c.in_ok-kept.ensures.grows c.requires.rest_inside

pub out_keys-requires : goal.out_keys-requires
out_keys-requires c = inside_kept _ _ _ c.in_ok-kept.ensures.grows c.requires.inside

pub loop-key-init : goal.loop-key-init
loop-key-init c = record {
  grows = c.in_ok-kept.ensures.grows;
  outs = rw c.new-outs.ensures (selection_none c.and.new.self (carried_by_rest c.args.store.now c.args.rest)
      (λ k set. value_of c.args.store.now set c.args.permit && has_in c.args.store.now c.args.carried.now set k));
}

pub push_out-requires-clause-permit_inside : goal.push_out-requires-clause-permit_inside
push_out-requires-clause-permit_inside c = grows_inside _ _ _ c.loop-key.invariant.grows c.requires.permit_inside

pub push_out-requires-clause-inside : goal.push_out-requires-clause-inside
push_out-requires-clause-inside c = inside_kept _ _ _ c.loop-key.invariant.grows c.requires.inside

pub push_out-requires-clause-rest_inside : goal.push_out-requires-clause-rest_inside
push_out-requires-clause-rest_inside c = grows_inside _ _ _ c.loop-key.invariant.grows c.requires.rest_inside

pub push_out-requires-clause-known : goal.push_out-requires-clause-known
push_out-requires-clause-known c =
    let key : ℕ = get_or c.as_slice-keys.result.now c.loop-key.key-index 0 in
    let there : has c.in_ok-looked_at.looked_at key ≡ true = ap (λ (l : List ℕ). has l key) (sym c.as_slice-keys.ensures.all)
    ∙ has_index c.as_slice-keys.result.now c.loop-key.key-index c.loop-key-test.true in
    ap (λ (u : List ℕ). has u key) (c.loop-key.invariant.grows.universe ∙ sym c.in_ok-kept.ensures.grows.universe) ∙ c.in_ok-looked_at.ensures.known key there

pub loop-key-preserved : goal.loop-key-preserved
loop-key-preserved c =
    let up : IsAscending c.as_slice-keys.result.now = rw c.as_slice-keys.ensures.all c.as_slice-keys.ensures.ascending in
    let e : take (c.loop-key.key-index + 1) c.as_slice-keys.result.now ≡ take c.loop-key.key-index c.as_slice-keys.result.now
    ++ get_or c.as_slice-keys.result.now c.loop-key.key-index 0 ∷ [] = take_more c.as_slice-keys.result.now c.loop-key.key-index 0 c.loop-key-test.true in
    record {
      grows = grows_trans _ _ _ c.loop-key.invariant.grows c.in_ok-outs.ensures.grows;
      outs = rw e (out_step c.args.store.now c.loop-key.store c.push_out.new.store c.loop-key.outs c.in_ok-outs.outs c.args.permit c.args.carried.now
          c.args.rest (get_or c.as_slice-keys.result.now c.loop-key.key-index 0) (take c.loop-key.key-index c.as_slice-keys.result.now)
          c.loop-key.invariant.grows c.in_ok-outs.ensures.grows c.requires.permit_inside c.requires.inside c.requires.rest_inside c.loop-key.invariant.outs
          (below_number c.as_slice-keys.result.now c.loop-key.key-index up c.loop-key-test.true) c.in_ok-outs.ensures.pushed);
    }

pub returns-clause-outs : goal.returns-clause-outs
returns-clause-outs c =
    let e : take c.loop-key.key-index c.as_slice-keys.result.now ≡ c.in_ok-looked_at.looked_at =
    take_all c.loop-key.key-index c.as_slice-keys.result.now (omega arith) ∙ c.as_slice-keys.ensures.all in
    outs_are c.args.store.now c.and.new.self c.loop-key.store c.args.permit c.args.carried.now c.args.rest c.in_ok-kept.kept c.is_same-few.result
    c.in_ok-looked_at.looked_at c.loop-key.outs c.in_ok-kept.ensures.grows c.requires.permit_inside c.requires.inside c.requires.rest_inside
    c.in_ok-kept.ensures.and c.is_same-few.ensures.same c.in_ok-looked_at.ensures
    (subst (λ (l : List ℕ). IsSelection c.loop-key.store (carried_by_rest c.args.store.now c.args.rest)
    (λ k set. value_of c.args.store.now set c.args.permit && has_in c.args.store.now c.args.carried.now set k) l c.loop-key.outs) e
    c.loop-key.invariant.outs)

pub returns-in_err-outs-clause-grows : goal.returns-in_err-outs-clause-grows
returns-in_err-outs-clause-grows c = grows_trans _ _ _ c.loop-key.invariant.grows c.in_err-outs.ensures.grows
