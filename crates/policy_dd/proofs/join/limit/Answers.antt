use Rattle.std.proofs.Common.{◌≡◌, ◌+◌, ◌<◌, ◌&&◌, ◌++◌, ◌∷◌, [], ◌∙◌, ap, sym, arith, subst, take, get_or, length, true, false, List, ℕ}
use Rattle.std.proofs.lemmas.List.{take_all}
use Rattle.base_kit.specs.Sets.{has}
use Rattle.dd_core.specs.Sets.{value_of}
use Rattle.dd_core.proofs.ShownLemmas.{grows_refl, grows_trans, grows_inside, means_kept}
use Rattle.policy_dd.specs.Edge.{case_or, keys_of, never}
use Rattle.policy_dd.specs.Tables.{IsSelection}
use Rattle.policy_dd.proofs.TableLemmas.{inside_at, at_item}
use Rattle.policy_dd.proofs.SelectionLemmas.{selection_none, selection_more, below_at}
use Rattle.policy_dd.proofs.JoinLemmas.{keys_more, limit_node}
use Rattle.policy_dd.proofs.join.limit.Goals as goal

pub loop-case-init : goal.loop-case-init
loop-case-init c = record {
  grows = grows_refl c.args.store.now;
  limited = rw c.new-limited.ensures (selection_none c.args.store.now never
      (λ k set. case_or c.args.store.now set c.args.cases.now k false && value_of c.args.store.now set c.args.with));
}

pub and-requires-clause-a_inside : goal.and-requires-clause-a_inside
and-requires-clause-a_inside c =
    let e = at_item c.args.cases.now c.loop-case.case-index c.case-item.result c.loop-case-test.true c.case-item.is in
    let f : c.node_in-there.result ≡ (get_or c.args.cases.now c.loop-case.case-index (0, 0)).1 = c.node_in-there.ensures ∙ ap (λ (p : ℕ × ℕ). p.1) e in
    subst (λ (n : ℕ). n < length c.loop-case.store.nodes) (sym f)
    (grows_inside _ _ _ c.loop-case.invariant.grows (inside_at c.args.store.now c.args.cases.now c.loop-case.case-index c.requires.inside
    c.loop-case-test.true))

pub and-requires-clause-b_inside : goal.and-requires-clause-b_inside
and-requires-clause-b_inside c = grows_inside _ _ _ c.loop-case.invariant.grows c.requires.with_inside

pub push_unless_plain-requires-clause-plain_inside :
    goal.push_unless_plain-requires-clause-plain_inside
push_unless_plain-requires-clause-plain_inside c = grows_inside _ _ _ (grows_trans _ _ _ c.loop-case.invariant.grows c.in_ok-node.ensures.grows)
    c.constant-never.ensures.constant.inside

pub loop-case-preserved : goal.loop-case-preserved
loop-case-preserved c =
    let e = at_item c.args.cases.now c.loop-case.case-index c.case-item.result c.loop-case-test.true c.case-item.is in
    let f : c.node_in-there.result ≡ (get_or c.args.cases.now c.loop-case.case-index (0, 0)).1 = c.node_in-there.ensures ∙ ap (λ (p : ℕ × ℕ). p.1) e in
    let k : c.key_in-key.result ≡ (get_or c.args.cases.now c.loop-case.case-index (0, 0)).0 = c.key_in-key.ensures ∙ ap (λ (p : ℕ × ℕ). p.0) e in
    let there : c.node_in-there.result < length c.args.store.now.nodes =
    subst (λ (n : ℕ). n < length c.args.store.now.nodes) (sym f)
    (inside_at c.args.store.now c.args.cases.now c.loop-case.case-index c.requires.inside c.loop-case-test.true) in
    let node = limit_node c.args.store.now c.loop-case.store c.and.new.self c.args.cases.now c.loop-case.case-index c.key_in-key.result c.node_in-there.result
    c.args.with c.in_ok-node.node c.loop-case.invariant.grows c.requires.ascending c.loop-case-test.true there c.requires.with_inside k f
    c.in_ok-node.ensures.and in
    let plain = means_kept c.args.store.now c.and.new.self c.constant-never.result (λ _. false)
    (grows_trans _ _ _ c.loop-case.invariant.grows c.in_ok-node.ensures.grows) c.constant-never.ensures.constant in
    let keys : keys_of (take (c.loop-case.case-index + 1) c.args.cases.now) ≡ keys_of (take c.loop-case.case-index c.args.cases.now) ++ c.key_in-key.result
    ∷ [] =
    keys_more c.args.cases.now c.loop-case.case-index c.loop-case-test.true
    ∙ ap (λ (n : ℕ). keys_of (take c.loop-case.case-index c.args.cases.now) ++ n ∷ []) (sym k) in
    let below : (key : ℕ) → has (keys_of (take c.loop-case.case-index c.args.cases.now)) key ≡ true → key < c.key_in-key.result = λ key in_keys.
    subst (λ (n : ℕ). key < n) (sym k) (below_at c.args.cases.now c.loop-case.case-index c.requires.ascending c.loop-case-test.true key in_keys) in
    record {
      grows = grows_trans _ _ _ c.loop-case.invariant.grows c.in_ok-node.ensures.grows;
      limited = rw keys (selection_more c.loop-case.store c.and.new.self never
          (λ k set. case_or c.args.store.now set c.args.cases.now k false && value_of c.args.store.now set c.args.with)
          (keys_of (take c.loop-case.case-index c.args.cases.now)) c.loop-case.limited c.key_in-key.result c.in_ok-node.node c.constant-never.result
          c.in_ok-node.ensures.grows c.loop-case.invariant.limited below node plain c.in_ok-limited.limited c.in_ok-limited.ensures);
    }

pub returns-clause-limited : goal.returns-clause-limited
returns-clause-limited c =
    subst (λ (l : List (ℕ × ℕ)). IsSelection c.loop-case.store never
    (λ k set. case_or c.args.store.now set c.args.cases.now k false && value_of c.args.store.now set c.args.with) (keys_of l) c.loop-case.limited)
    (take_all c.loop-case.case-index c.args.cases.now (omega arith)) c.loop-case.invariant.limited

pub returns-in_err-node-clause-grows : goal.returns-in_err-node-clause-grows
returns-in_err-node-clause-grows c = grows_trans _ _ _ c.loop-case.invariant.grows c.in_err-node.ensures.grows

pub returns-in_err-limited-clause-grows : goal.returns-in_err-limited-clause-grows
returns-in_err-limited-clause-grows c = grows_trans _ _ _ c.loop-case.invariant.grows c.in_ok-node.ensures.grows
