use Rattle.answer_groups.specs.CompressText.{IsPlanOf}
use Rattle.answer_groups.proofs.Compressing.{emitted_for, told_of}
use Rattle.answer_kit.proofs.Replies.{answers_as}
use Rattle.answer_groups.proofs.compress.answer_of.Goals as goal

pub returns : goal.returns
returns c =
    let n = c.args.checked.now.network in
    let class = c.args.class.now in
    let emitted = emitted_for n class c.args.problem c.requires.built c.emitted_of-emitted.result c.emitted_of-emitted.ensures in
    answers_as c.told.result _ _ ⊥ ⊥ ⊥ ⊥ (λ o is. told_of (IsPlanOf n class) n class c.emitted_of-emitted.result emitted o is) (λ e. e) (λ e. e)
    c.told.ensures
