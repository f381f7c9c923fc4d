use Rattle.std.proofs.Common.{◌≡◌, ◌+◌, List, ◌∙◌, ap, sym, refl, arith, Some, true, false}
use Rattle.dest_classes.specs.declared.stretches.BlockAnswer.{BlockAnswer}
use Rattle.dest_classes.specs.Stretches.{settled_answer}
use Rattle.dest_classes.proofs.StretchFacts.{adds_settled}
use Rattle.dest_classes.proofs.stretches.with_list.Goals as goal

pub returns-in-Some-true : goal.returns-in-Some-true
returns-in-Some-true c =
    let is : settled_answer c.args.answers.items c.args.stretch.from.addr c.args.last ≡ Some true =
    ap (λ (xs : List BlockAnswer). settled_answer xs c.args.stretch.from.addr c.args.last) (sym c.as_slice.ensures.value)
    ∙ ap (λ n. settled_answer c.as_slice.result.now n c.args.last) (sym c.addr.ensures) ∙ sym c.settled_answer.ensures ∙ c.in-Some-true.is
    ∙ ap Some c.in-Some-true.field-0-test in
    adds_settled c.args.stretch c.args.bit c.args.last _ c.args.answers.items true is refl

pub returns-in-Some-false : goal.returns-in-Some-false
returns-in-Some-false c =
    let is : settled_answer c.args.answers.items c.args.stretch.from.addr c.args.last ≡ Some false =
    ap (λ (xs : List BlockAnswer). settled_answer xs c.args.stretch.from.addr c.args.last) (sym c.as_slice.ensures.value)
    ∙ ap (λ n. settled_answer c.as_slice.result.now n c.args.last) (sym c.addr.ensures) ∙ sym c.settled_answer.ensures ∙ c.in-Some-false.is
    ∙ ap Some c.in-Some-false.field-0-test in
    let same : c.args.stretch.settled ≡ c.args.stretch.settled + 0 = omega arith in
    adds_settled c.args.stretch c.args.bit c.args.last _ c.args.answers.items false is same
