use Rattle.std.proofs.Common.{◌≡◌, ◌+◌, ◌<◌, ◌&&◌, ◌++◌, ◌∷◌, [], ◌∙◌, not, ap, sym, arith, subst, take, get_or, length, false, List, ℕ, Bool, refl}
use Rattle.std.proofs.lemmas.List.{take_all}
use Rattle.base_kit.specs.Sets.{has}
use Rattle.dd_core.specs.Sets.{value_of}
use Rattle.dd_core.proofs.ShownLemmas.{grows_refl, grows_trans, grows_inside}
use Rattle.policy_dd.specs.Edge.{case_or, keys_of}
use Rattle.policy_dd.specs.Tables.{IsTableGrown}
use Rattle.policy_dd.proofs.TableLemmas.{inside_at, at_item, grown_none, grown_between, cases_inside_kept}
use Rattle.policy_dd.proofs.JoinLemmas.{keys_more}
use Rattle.policy_dd.proofs.EitherLemmas.{grown_by_key, unless_node, grown_all}
use Rattle.policy_dd.proofs.either.or_unless.Goals as goal

pub loop-case-init : goal.loop-case-init
loop-case-init c = record {
  grows = grows_refl c.args.store.now;
  more = grown_none c.args.store.now c.args.cases (λ k set. has [] k
      && (not (value_of c.args.store.now set c.args.unless) && case_or c.args.store.now set c.args.more.now k false)) c.requires.inside (λ k set. refl);
}

pub without-requires-clause-a_inside : goal.without-requires-clause-a_inside
without-requires-clause-a_inside c =
    let e = at_item c.args.more.now c.loop-case.case-index c.case-item.result c.loop-case-test.true c.case-item.is in
    let f : c.node_in-there.result ≡ (get_or c.args.more.now c.loop-case.case-index (0, 0)).1 = c.node_in-there.ensures ∙ ap (λ (p : ℕ × ℕ). p.1) e in
    subst (λ (n : ℕ). n < length c.loop-case.store.nodes) (sym f)
    (grows_inside _ _ _ c.loop-case.invariant.grows (inside_at c.args.store.now c.args.more.now c.loop-case.case-index c.requires.more_inside
    c.loop-case-test.true))

pub without-requires-clause-b_inside : goal.without-requires-clause-b_inside
without-requires-clause-b_inside c = grows_inside _ _ _ c.loop-case.invariant.grows c.requires.unless_inside

pub or_into-requires-clause-inside : goal.or_into-requires-clause-inside
or_into-requires-clause-inside c = cases_inside_kept _ _ _ c.in_ok-node.ensures.grows c.loop-case.invariant.more.inside

pub loop-case-preserved : goal.loop-case-preserved
loop-case-preserved c =
    let e = at_item c.args.more.now c.loop-case.case-index c.case-item.result c.loop-case-test.true c.case-item.is in
    let f : c.node_in-there.result ≡ (get_or c.args.more.now c.loop-case.case-index (0, 0)).1 = c.node_in-there.ensures ∙ ap (λ (p : ℕ × ℕ). p.1) e in
    let k : c.key_in-key.result ≡ (get_or c.args.more.now c.loop-case.case-index (0, 0)).0 = c.key_in-key.ensures ∙ ap (λ (p : ℕ × ℕ). p.0) e in
    let there : c.node_in-there.result < length c.args.store.now.nodes =
    subst (λ (n : ℕ). n < length c.args.store.now.nodes) (sym f)
    (inside_at c.args.store.now c.args.more.now c.loop-case.case-index c.requires.more_inside c.loop-case-test.true) in
    let keys : keys_of (take (c.loop-case.case-index + 1) c.args.more.now) ≡ keys_of (take c.loop-case.case-index c.args.more.now) ++ c.key_in-key.result ∷ [] =
    keys_more c.args.more.now c.loop-case.case-index c.loop-case-test.true
    ∙ ap (λ (n : ℕ). keys_of (take c.loop-case.case-index c.args.more.now) ++ n ∷ []) (sym k) in
    let test : ℕ → List ℕ → Bool = λ k set. not (value_of c.args.store.now set c.args.unless) && case_or c.args.store.now set c.args.more.now k false in
    let done : List ℕ = keys_of (take c.loop-case.case-index c.args.more.now) in
    let before : IsTableGrown c.args.store.now c.without.new.store c.args.cases c.loop-case.all done (λ k set. has done k && test k set) =
    grown_between c.args.store.now c.args.store.now c.loop-case.store c.without.new.store c.args.cases c.loop-case.all done (λ k set. has done k && test k set)
    (λ k set. has done k && test k set) (grows_refl c.args.store.now) c.requires.inside c.in_ok-node.ensures.grows c.loop-case.invariant.more
    (λ k set. refl) in
    record {
      grows = grows_trans _ _ _ (grows_trans _ _ _ c.loop-case.invariant.grows c.in_ok-node.ensures.grows) c.in_ok-all.ensures.grows;
      more = rw keys (grown_by_key c.args.store.now c.without.new.store c.or_into.new.store c.args.cases c.loop-case.all c.in_ok-all.all done
          c.key_in-key.result c.in_ok-node.node test before c.in_ok-all.ensures.more
          (unless_node c.args.store.now c.loop-case.store c.without.new.store c.args.more.now c.loop-case.case-index c.key_in-key.result c.node_in-there.result
          c.args.unless c.in_ok-node.node c.loop-case.invariant.grows c.requires.ascending c.loop-case-test.true there c.requires.unless_inside k f
          c.in_ok-node.ensures.without));
    }

pub returns-clause-more : goal.returns-clause-more
returns-clause-more c =
    grown_all c.args.store.now c.loop-case.store c.args.cases c.args.more.now c.loop-case.all c.args.unless
    (subst (λ (l : List (ℕ × ℕ)). IsTableGrown c.args.store.now c.loop-case.store c.args.cases c.loop-case.all (keys_of l)
    (λ k set. has (keys_of l) k && (not (value_of c.args.store.now set c.args.unless) && case_or c.args.store.now set c.args.more.now k false)))
    (take_all c.loop-case.case-index c.args.more.now (omega arith)) c.loop-case.invariant.more)

pub returns-in_err-node-clause-grows : goal.returns-in_err-node-clause-grows
returns-in_err-node-clause-grows c = grows_trans _ _ _ c.loop-case.invariant.grows c.in_err-node.ensures.grows

pub returns-in_err-all-clause-grows : goal.returns-in_err-all-clause-grows
returns-in_err-all-clause-grows c = grows_trans _ _ _ (grows_trans _ _ _ c.loop-case.invariant.grows c.in_ok-node.ensures.grows) c.in_err-all.ensures.grows
