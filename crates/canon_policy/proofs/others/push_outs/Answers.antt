use Rattle.std.proofs.Common.{◌++◌, ◌∷◌, [], ◌∙◌, ap, sym, take, ℕ, List}
use Rattle.std.proofs.lemmas.List.{append_assoc}
use Rattle.base_kit.specs.declared.ids.Community.{Community}
use Rattle.policy_dd.specs.Edge.{by_number}
use Rattle.canon_policy.specs.Made.{nodes_of}
use Rattle.canon_policy.proofs.MadeLists.{taken, outs_more}
use Rattle.canon_policy.proofs.others.push_outs.Goals as goal

pub loop-case-preserved : goal.loop-case-preserved
loop-case-preserved c =
    let more = taken c.args.cases.now c.loop-case.case-index c.case-item.result c.loop-case-test.true c.case-item.is in
    c.in_ok-push.ensures.ok ∙ ap (λ (l : List ℕ). l ++ c.case-item.result.1 ∷ []) c.loop-case.invariant
    ∙ append_assoc c.args.nodes.now (nodes_of (by_number (take c.loop-case.case-index c.args.cases.now))) (c.case-item.result.1 ∷ [])
    ∙ ap (λ (l : List ℕ). c.args.nodes.now ++ l) (sym (outs_more (take c.loop-case.case-index c.args.cases.now) c.case-item.result))
    ∙ ap (λ (l : List (Community × ℕ)). c.args.nodes.now ++ nodes_of (by_number l)) (sym more)
