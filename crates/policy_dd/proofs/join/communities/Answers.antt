use Rattle.std.proofs.Common.{◌≡◌, ◌++◌, ◌∷◌, [], ◌∙◌, ap, sym, take, get_or, List, ℕ}
use Rattle.std.proofs.lemmas.List.{take_more}
use Rattle.base_kit.specs.declared.ids.Community.{Community}
use Rattle.policy_dd.specs.Edge.{by_number}
use Rattle.policy_dd.proofs.CaseLemmas.{pair_is}
use Rattle.policy_dd.proofs.TableLemmas.{at_item}
use Rattle.policy_dd.proofs.JoinLemmas.{numbers_more}
use Rattle.policy_dd.proofs.join.communities.Goals as goal

pub loop-case-preserved : goal.loop-case-preserved
loop-case-preserved c =
    let e = at_item c.args.cases.now c.loop-case.case-index c.case-item.result c.loop-case-test.true c.case-item.is in
    let item : ℕ × ℕ = get_or c.args.cases.now c.loop-case.case-index (0, 0) in
    let made : ℕ × ℕ = (c.key_in.result, c.node_in.result) in
    let community : Community = record { 0 = c.key_in.result } in
    let same : made ≡ item = pair_is made item (c.key_in.ensures ∙ ap (λ (p : ℕ × ℕ). p.0) e) (c.node_in.ensures ∙ ap (λ (p : ℕ × ℕ). p.1) e) in
    ap (λ (l : List (Community × ℕ)). by_number l) c.in_ok-push.ensures.ok ∙ numbers_more c.loop-case.named (community, c.node_in.result)
    ∙ ap (λ (l : List (ℕ × ℕ)). l ++ made ∷ []) c.loop-case.invariant ∙ ap (λ (p : ℕ × ℕ). take c.loop-case.case-index c.args.cases.now ++ p ∷ []) same
    ∙ sym (take_more c.args.cases.now c.loop-case.case-index (0, 0) c.loop-case-test.true)
