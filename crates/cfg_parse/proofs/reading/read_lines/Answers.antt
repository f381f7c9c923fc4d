use Rattle.std.proofs.Common.{◌≡◌, [], Ok, sym, ap, ◌∙◌, subst}
use Rattle.std.proofs.lemmas.Result.{err_from_is_err_and}
use Rattle.cfg_ast.specs.text.Answers.{RefusesAs}
use Rattle.cfg_ast.specs.text.Steps.{◌>>=◌}
use Rattle.cfg_lex.specs.Places.{IsNext, IsFirst, lines_from}
use Rattle.cfg_parse.specs.Rest.{answer_of, state_after}
use Rattle.cfg_parse.proofs.Rest.{line_ok, line_gives, lines_end, changes_as_said}
use Rattle.cfg_parse.proofs.reading.read_lines.Goals as goal

pub returns-in_err-line : goal.returns-in_err-line
returns-in_err-line c =
    let p = err_from_is_err_and c.from_residual.result c.from_residual.ensures.1 in
    rw (p.1, p.2) tt

pub returns-in_err-step : goal.returns-in_err-step
returns-in_err-step c =
    let bs = c.args.bytes.now in
    let place = c.loop-line.place in
    let first : IsFirst bs place c.in-Some.next c.in-Some.line = subst (IsNext bs place) c.in-Some.is c.in_ok-line.ensures in
    let p = err_from_is_err_and c.from_residual-in_err-step.result c.from_residual-in_err-step.ensures.1 in
    rw (p.1, p.2) (subst (RefusesAs c.in_err-step.field-0.0) c.loop-line.invariant.same
    (line_gives bs place c.in-Some.next c.loop-line.state (answer_of c.loop-line.last) c.in-Some.line c.in_err-step.field-0.0 first c.in_err-step.ensures))

pub loop-line-preserved : goal.loop-line-preserved
loop-line-preserved c =
    let bs = c.args.bytes.now in
    let place = c.loop-line.place in
    let first : IsFirst bs place c.in-Some.next c.in-Some.line = subst (IsNext bs place) c.in-Some.is c.in_ok-line.ensures in
    record {
      is_place = first.is_place;
      sound = first.sound;
      same = ap (λ said. state_after bs c.step.new.state said (lines_from bs c.in-Some.next)) c.unended-last.ensures
          ∙ sym (line_ok bs place c.in-Some.next c.loop-line.state c.step.new.state (answer_of c.loop-line.last) c.in-Some.line first c.in_ok-step.ensures)
          ∙ c.loop-line.invariant.same;
    }

pub returns : goal.returns
returns c =
    let bs = c.args.bytes.now in
    let place = c.loop-line.place in
    let none : lines_from bs place ≡ Ok [] = subst (IsNext bs place) c.in_default.is c.in_ok-line.ensures in
    changes_as_said c.loop-line.state c.ended.result _ (sym c.loop-line.invariant.same ∙ lines_end bs place c.loop-line.state (answer_of c.loop-line.last) none
    ∙ ap (λ said. said >>= (λ _. Ok c.loop-line.state)) (sym c.ended.ensures))
