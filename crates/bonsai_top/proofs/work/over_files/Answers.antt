use Rattle.std.proofs.Common.{subst, List, ℕ, Option, Some}
use Rattle.cfg_ast.specs.text.Reading.{reading_of}
use Rattle.io_kit.specs.Ends.{Rose}
use Rattle.bonsai_top.specs.Commands.{SecondRose}
use Rattle.bonsai_top.specs.Faults.{LeadsToSecond, SecondFailed}
use Rattle.bonsai_top.specs.Outcomes.{IsOutcomeOfReading}
use Rattle.answer_kit.specs.Replies.{Answers}
use Rattle.io_kit.proofs.Rises.{rose_earlier}
use Rattle.bonsai_top.proofs.Texts.{answers_text, answers_long, told_leads}
use Rattle.bonsai_top.proofs.work.over_files.Goals as goal

pub returns-in-Ok-clause-answers : goal.returns-in-Ok-clause-answers
returns-in-Ok-clause-answers g c =
    let read = c.in-Ok.ensures in
    let command = c.args.command in
    let first = c.args.first.now in
    let second = c.args.second.now in
    let contents = g.S.Source.contents c.args.files.now in
    let old = g.S.Source.faults c.args.files.now in
    let mid = g.S.Source.faults c.read_all.new.s in
    let new = g.S.Source.faults c.over_text.new.files in
    let told = subst (λ (held : List ℕ → Option (List ℕ)). Answers c.over_text.result
    (IsOutcomeOfReading command (held second) (reading_of c.deref.result.now)) ⊥
    (SecondRose (Some command) (mid second) (new second) × LeadsToSecond command c.deref.result.now)) read.contents c.over_text.ensures.answers in
    let answers = subst (λ (t : List ℕ). Answers c.over_text.result (IsOutcomeOfReading command (contents second) (reading_of t)) ⊥
    (SecondRose (Some command) (mid second) (new second) × LeadsToSecond command t)) c.deref.ensures.value told in
    answers_text c.over_text.result command c.in-Ok.text.items (contents first) (contents second) (Rose (old first) (new first))
    (SecondRose (Some command) (mid second) (new second) × LeadsToSecond command c.in-Ok.text.items)
    (SecondFailed (Some command) (contents first) (old second) (new second)) read.short read.whole
    (λ p. (
      (p.0.0, rose_earlier (old second) (mid second) (new second) (read.later second) p.0.1),
      told_leads command c.in-Ok.text.items (contents first) read.whole p.1,
    )) answers

pub returns-in-Err-TooLong-clause-answers : goal.returns-in-Err-TooLong-clause-answers
returns-in-Err-TooLong-clause-answers g c =
    answers_long c.long_text.result c.args.command _ _ _ _ (c.in-Err-TooLong.ensures.too_long (cc)) c.long_text.ensures
