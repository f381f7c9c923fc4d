use Rattle.std.proofs.Common.{◌≡◌, ◌+◌, ◌<◌, List, ℕ, length, sym, ap, ◌∙◌, subst, arith, Ok, Err}
use Rattle.cfg_ast.specs.text.Lines.{begins_line}
use Rattle.cfg_ast.proofs.Pieces.{begins_next}
use Rattle.cfg_lex.proofs.LinesLeft.{Cut}
use Rattle.route_run.specs.Reading.{preceded}
use Rattle.route_run.specs.Schedules.{LineWord, run_of, schedule_of_words, schedule_of_text, ReadsSchedule}
use Rattle.route_run.proofs.Runs.{all_from}
use Rattle.route_run.proofs.ScheduleRouters.{words_within}
use Rattle.route_run.proofs.WordsLeft.{words_left, line_left, none_left, no_words, refused_whole}
use Rattle.route_run.proofs.reading.read_schedule.Goals as goal

pub returns-in-Err-clause-exact : goal.returns-in-Err-clause-exact
returns-in-Err-clause-exact c =
    let bs = c.args.bytes.now in
    let names = c.as_slice-names.result.now in
    let n = c.loop-from.line + 1 in
    let end = c.newline_from-end.result in
    let cut : Cut bs c.loop-from.from c.newline_from-end.result c.without_return-upto.result = record {
      inside = c.loop-from-test.true;
      begins = c.loop-from.invariant.begins c.loop-from-test.true;
      to_newline = c.newline_from-end.ensures.place;
      less_return = c.without_return-upto.ensures.place;
      front = c.without_return-upto.ensures.bounds.0;
      short = omega arith;
    } in
    let whole = sym (ap (λ (ws : List LineWord). preceded c.loop-from.schedule (schedule_of_words names ws))
    (line_left bs n c.loop-from.from end c.without_return-upto.result cut)) ∙ c.loop-from.invariant.answer in
    subst (λ (ns : List (List ℕ)). ReadsSchedule (Err c.in-Err.refusal) (schedule_of_text ns bs)) c.as_slice-names.ensures
    (refused_whole names c.loop-from.schedule n _ (words_left bs (n + 1) (end + 1)) c.in-Err.refusal (schedule_of_text names bs) whole c.in-Err.ensures.refused)

pub loop-from-preserved : goal.loop-from-preserved
loop-from-preserved c =
    let bs = c.args.bytes.now in
    let names = c.as_slice-names.result.now in
    let n = c.loop-from.line + 1 in
    let end = c.newline_from-end.result in
    let cut : Cut bs c.loop-from.from c.newline_from-end.result c.without_return-upto.result = record {
      inside = c.loop-from-test.true;
      begins = c.loop-from.invariant.begins c.loop-from-test.true;
      to_newline = c.newline_from-end.ensures.place;
      less_return = c.without_return-upto.ensures.place;
      front = c.without_return-upto.ensures.bounds.0;
      short = omega arith;
    } in
    let whole = sym (ap (λ (ws : List LineWord). preceded c.loop-from.schedule (schedule_of_words names ws))
    (line_left bs n c.loop-from.from end c.without_return-upto.result cut)) ∙ c.loop-from.invariant.answer in
    record {
      few = omega arith;
      inside = omega arith;
      begins = λ h. ap (λ (e : ℕ). begins_line bs (e + 1)) c.newline_from-end.ensures.place
          ∙ begins_next bs c.loop-from.from c.loop-from-test.true (omega (arith, h, c.newline_from-end.ensures.place));
      answer = sym (c.in-Ok.ensures.read (words_left bs (n + 1) (end + 1))) ∙ whole;
    }

pub returns-clause-exact : goal.returns-clause-exact
returns-clause-exact c =
    let bs = c.args.bytes.now in
    let names = c.as_slice-names.result.now in
    let none = none_left bs (c.loop-from.line + 1) c.loop-from.from c.loop-from-test.false in
    subst (λ (ns : List (List ℕ)). schedule_of_text ns bs ≡ Ok c.loop-from.schedule) c.as_slice-names.ensures
    (sym c.loop-from.invariant.answer ∙ ap (λ (ws : List LineWord). preceded c.loop-from.schedule (schedule_of_words names ws)) none
    ∙ no_words names c.loop-from.schedule)

pub returns-clause-within : goal.returns-clause-within
returns-clause-within c =
    let names = c.args.names.now in
    all_from (λ u. u < length names) (run_of (length names) c.loop-from.schedule)
    (λ u i. words_within names _ c.loop-from.schedule (returns-clause-exact c) u i)
