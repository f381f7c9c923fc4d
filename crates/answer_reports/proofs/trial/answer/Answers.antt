use Rattle.std.proofs.Common.{◌≡◌, false, ◌∙◌}
use Rattle.fat_gen.specs.FatTrees.{is_size}
use Rattle.answer_kit.proofs.Replies.{answers_as}
use Rattle.answer_reports.proofs.Trials.{of_size, of_no_size}
use Rattle.answer_reports.proofs.trial.answer.Goals as goal

pub returns-in-Ok : goal.returns-in-Ok
returns-in-Ok c =
    answers_as c.summary_of_text.result _ _ ⊥ ⊥ ⊥ ⊥ (λ o is.
    of_size c.args.size c.deref.result.now o c.in-Ok.ensures.0 (c.deref.ensures.value ∙ c.in-Ok.ensures.1) is) (λ e. e) (λ e. e) c.summary_of_text.ensures

pub returns-in-Err-BadSize : goal.returns-in-Err-BadSize
returns-in-Err-BadSize c =
    let none : is_size c.args.size ≡ false = rw c.in-Err-BadSize.field-0-is at c.in-Err-BadSize.ensures in
    answers_as c.size_refusal.result _ _ ⊥ ⊥ ⊥ ⊥ (λ o is. of_no_size c.args.size o none is) (λ e. e) (λ e. e) c.size_refusal.ensures
