use Rattle.std.proofs.Common.{◌++◌, ◌∷◌, [], ◌∙◌, ap, sym, take, ℕ, List}
use Rattle.std.proofs.lemmas.List.{append_assoc}
use Rattle.base_kit.specs.declared.ids.Community.{Community}
use Rattle.canon_policy.specs.declared.parts.PartNodes.{PartNodes}
use Rattle.canon_policy.specs.declared.parts.PartNodes.TheVariants.{Carried}
use Rattle.canon_policy.specs.Made.{carried_nodes}
use Rattle.canon_policy.proofs.MadeLists.{taken}
use Rattle.canon_policy.proofs.Numbered.{parts_more}
use Rattle.canon_policy.proofs.canonical.push_carried.Goals as goal

pub loop-case-preserved : goal.loop-case-preserved
loop-case-preserved c =
    let more = taken c.args.outs.now c.loop-case.case-index c.case-item.result c.loop-case-test.true c.case-item.is in
    c.in_ok-push.ensures.ok ∙ ap (λ (l : List PartNodes). l ++ Carried c.case-item.result.0 c.case-item.result.1 ∷ []) c.loop-case.invariant
    ∙ append_assoc c.args.parts.now (carried_nodes (take c.loop-case.case-index c.args.outs.now)) (Carried c.case-item.result.0 c.case-item.result.1 ∷ [])
    ∙ ap (λ (l : List PartNodes). c.args.parts.now ++ l) (sym (parts_more (take c.loop-case.case-index c.args.outs.now) c.case-item.result))
    ∙ ap (λ (l : List (Community × ℕ)). c.args.parts.now ++ carried_nodes l) (sym more)
