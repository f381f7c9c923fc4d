use Rattle.std.proofs.Common.{◌∙◌, sym, ap, subst}
use Rattle.cut_certificate.specs.declared.standing.Stage.{Stage}
use Rattle.cut_certificate.specs.Kept.{AreGroupsKept}
use Rattle.cut_certificate.specs.Texts.{Standing}
use Rattle.cut_certificate.proofs.standing.Standing.with_split.Goals as goal

pub invariant_of-result : goal.invariant_of-result
invariant_of-result c =
    let stage = ap (λ (s : Standing). s.stage) c.self.view_is ∙ c.requires.stage in
    subst (λ (t : Stage). AreGroupsKept c.in_ok-blocks.blocks.numbers c.self.inside.groups t) (sym stage) tt
