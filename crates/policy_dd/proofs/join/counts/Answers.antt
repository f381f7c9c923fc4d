use Rattle.std.proofs.Common.{◌≡◌, ◌++◌, ◌∷◌, [], ◌∙◌, ap, sym, arith, take, get_or, List, ℕ}
use Rattle.std.proofs.lemmas.List.{take_more}
use Rattle.policy_dd.proofs.CaseLemmas.{pair_is}
use Rattle.policy_dd.proofs.TableLemmas.{at_item}
use Rattle.policy_dd.proofs.SelectionLemmas.{has_key_at}
use Rattle.policy_dd.proofs.join.counts.Goals as goal

pub overflow_cast-count : goal.overflow_cast-count
overflow_cast-count c =
    let e = at_item c.args.cases.now c.loop-case.case-index c.case-item.result c.loop-case-test.true c.case-item.is in
    let k : c.key_in-count.result ≡ (get_or c.args.cases.now c.loop-case.case-index (0, 0)).0 = c.key_in-count.ensures ∙ ap (λ (p : ℕ × ℕ). p.0) e in
    let small = c.requires (get_or c.args.cases.now c.loop-case.case-index (0, 0)).0 (has_key_at c.args.cases.now c.loop-case.case-index c.loop-case-test.true)
    in
    omega arith

pub loop-case-preserved : goal.loop-case-preserved
loop-case-preserved c =
    let e = at_item c.args.cases.now c.loop-case.case-index c.case-item.result c.loop-case-test.true c.case-item.is in
    let item : ℕ × ℕ = get_or c.args.cases.now c.loop-case.case-index (0, 0) in
    let made : ℕ × ℕ = (c.key_in-count.result, c.node_in.result) in
    let same : made ≡ item = pair_is made item (c.key_in-count.ensures ∙ ap (λ (p : ℕ × ℕ). p.0) e) (c.node_in.ensures ∙ ap (λ (p : ℕ × ℕ). p.1) e) in
    c.in_ok-push.ensures.ok ∙ ap (λ (l : List (ℕ × ℕ)). l ++ made ∷ []) c.loop-case.invariant
    ∙ ap (λ (p : ℕ × ℕ). take c.loop-case.case-index c.args.cases.now ++ p ∷ []) same
    ∙ sym (take_more c.args.cases.now c.loop-case.case-index (0, 0) c.loop-case-test.true)
