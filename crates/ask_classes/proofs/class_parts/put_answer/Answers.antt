use Rattle.std.proofs.Common.{List, ℕ, ◌++◌, ap, ◌∙◌, subst}
use Rattle.std.specs.Prelude.{string_bytes}
use Rattle.srp_core.specs.Without.{marked_down}
use Rattle.srp_questions.specs.declared.question.Question.{Question}
use Rattle.ask_classes.specs.Answered.{WritesAnswer}
use Rattle.ask_classes.proofs.Losses.{asked_of_left}
use Rattle.ask_classes.proofs.Parts.{answer_written}
use Rattle.ask_classes.proofs.class_parts.put_answer.Goals as goal

pub solved-requires : goal.solved-requires
solved-requires c =
    let asking = c.args.asking.now in
    let whole = asking.problems.now.whole.now in
    let down = marked_down asking.scene.now.routers_down.now asking.scene.now.links_down.now in
    asked_of_left whole asking.problems.now.left.now down down asking.asks.now c.in_ok-question.question c.requires.scene.left
    (c.in_ok-question.ensures whole.names asking.scene.now.links_down.now c.requires.marks)

pub returns : goal.returns
returns c =
    let asking = c.args.asking.now in
    let whole = asking.problems.now.whole.now in
    let left = asking.problems.now.left.now in
    let number = asking.problems.now.number in
    let answer = c.in_ok-answer.answer in
    let old = c.args.bytes.now.items in
    let is = c.in_ok-question.ensures whole.names asking.scene.now.links_down.now c.requires.marks in
    let line = string_bytes c.in_ok-line.line in
    subst (λ (q : Question). WritesAnswer c.args.shows number q left old c.put-2.new.bytes.items answer.verdict) is
    (answer_written c.args.shows number c.in_ok-question.question left answer.verdict answer.tie old c.put.new.bytes.items c.put-2.new.bytes.items line
    answer.shown.items
    c.in_ok-answer.ensures.answer c.in_ok-answer.ensures.shown c.in_ok-line.ensures
    (c.in_ok-put.ensures ∙ ap (λ (t : List ℕ). old ++ t) c.as_bytes.ensures.value)
    (c.in_ok-put-2.ensures ∙ ap (λ (t : List ℕ). c.put.new.bytes.items ++ t) c.deref.ensures.value))
