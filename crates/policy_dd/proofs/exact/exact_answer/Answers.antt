use Rattle.std.proofs.Common.{◌≡◌, List, ℕ, sym, subst, ◌∙◌, ap}
use Rattle.dd_core.proofs.ShownLemmas.{grows_trans, grows_inside}
use Rattle.policy_dd.specs.Exact.{AreConditions}
use Rattle.policy_dd.proofs.ExactLemmas.{lines_now, tell_kept, told_inside, exact_answer_is, exactly_never}
use Rattle.policy_dd.proofs.MatchLemmas.{all_within}
use Rattle.policy_dd.proofs.exact.exact_answer.Goals as goal

pub returns-then-is_same-clause-answer : goal.returns-then-is_same-clause-answer
returns-then-is_same-clause-answer c = exactly_never c.args.store.now c.args.carried.now c.args.lines.now c.constant.result _ c.constant.ensures.constant
    (c.is_same.ensures.same c.if-is_same.true) c.constant-then-is_same.ensures.constant

pub conditions-requires-clause-known : goal.conditions-requires-clause-known
conditions-requires-clause-known c =
    let e : c.as_slice.result.now ≡ c.args.store.now.universe = c.as_slice.ensures.all ∙ c.in_ok-universe.ensures ∙ c.universe.ensures.universe in
    rw e (all_within c.args.store.now.universe c.args.store.now.universe (λ d there. there))

pub returns-in_err-none-clause-grows : goal.returns-in_err-none-clause-grows
returns-in_err-none-clause-grows c = grows_trans _ _ _ c.in_ok-conditions.ensures.grows c.in_err-none.ensures.grows

pub answer_by_communities-requires-clause-inside :
    goal.answer_by_communities-requires-clause-inside
answer_by_communities-requires-clause-inside c =
    rw c.as_slice-2.ensures (told_inside c.args.store.now c.not.new.self c.args.carried.now c.in_ok-conditions.conditions
    (tell_kept c.args.store.now _ _ c.args.carried.now c.in_ok-conditions.conditions c.in_ok-none.ensures.grows c.in_ok-conditions.ensures.conditions.each))

pub returns-clause-answer : goal.returns-clause-answer
returns-clause-answer c =
    let e : c.as_slice.result.now ≡ c.args.store.now.universe = c.as_slice.ensures.all ∙ c.in_ok-universe.ensures ∙ c.universe.ensures.universe in
    let conditions = subst (λ (cases : List (ℕ × ℕ)). AreConditions c.args.store.now c.conditions.new.store c.args.carried.now c.as_slice.result.now cases)
    (sym c.as_slice-2.ensures) c.in_ok-conditions.ensures.conditions in
    exact_answer_is c.args.store.now c.conditions.new.store c.not.new.self c.answer_by_communities.new.store c.args.carried.now c.as_slice.result.now
    c.as_slice-2.result.now (lines_now c.as_slice-3.result.now) c.args.lines.now c.in_ok-none.none c.in_ok-node.node c.requires.inside
    c.in_ok-conditions.ensures.grows c.in_ok-none.ensures.grows conditions e c.in_ok-none.ensures.not
    (ap lines_now c.as_slice-3.ensures.value ∙ c.in_ok-lines.ensures) c.in_ok-node.ensures.answer

pub not-requires : goal.not-requires
not-requires c = grows_inside _ _ _ c.in_ok-conditions.ensures.grows c.requires.inside.others

pub returns-in_err-lines-clause-grows : goal.returns-in_err-lines-clause-grows
returns-in_err-lines-clause-grows c = grows_trans _ _ _ c.in_ok-conditions.ensures.grows c.in_ok-none.ensures.grows

pub returns-in_err-node-clause-grows : goal.returns-in_err-node-clause-grows
returns-in_err-node-clause-grows c = grows_trans _ _ _ (grows_trans _ _ _ c.in_ok-conditions.ensures.grows c.in_ok-none.ensures.grows)
    c.in_err-node.ensures.grows

pub returns-clause-grows : goal.returns-clause-grows
returns-clause-grows c = grows_trans _ _ _ (grows_trans _ _ _ c.in_ok-conditions.ensures.grows c.in_ok-none.ensures.grows) c.in_ok-node.ensures.grows
