use Rattle.std.proofs.Common.{◌≡◌, ◌∷◌, ◌++◌, [], ◌+◌, ◌&&◌, Bool, List, ap, ◌∙◌, sym, subst, take, take_all}
use Rattle.std.proofs.lemmas.List.{take_more}
use Rattle.solution_answers.specs.Writing.{WritesEach}
use Rattle.solution_answers.proofs.Pairs.{one_written, none_written}
use Rattle.ask_answers.specs.Reading.{IsAskedReport}
use Rattle.ask_answers.specs.declared.reading.AskedLine.{AskedLine}
use Rattle.ask_answers.proofs.questions.put_all_asked.Goals as goal

pub loop-one-init : goal.loop-one-init
loop-one-init c = record {
  atlas = c.requires.atlas;
  written = none_written (IsAskedReport c.args.checked.now.network) c.args.bytes.now.items;
}

pub loop-one-preserved : goal.loop-one-preserved
loop-one-preserved c =
    let R = IsAskedReport c.args.checked.now.network in
    let asked = c.args.asked.now in
    let i = c.loop-one.one-index in
    let one = c.one-item.result in
    let old = c.args.bytes.now.items in
    let new = c.put_asked.new.bytes.items in
    record {
      atlas = c.put_asked.ensures.atlas;
      written = subst (WritesEach R (take (i + 1) asked) old new) (sym c.both-all.ensures)
          (subst (λ (items : List AskedLine). WritesEach R items old new (c.loop-one.all && c.in_ok-yes.yes))
          (ap (λ (item : AskedLine). take i asked ++ item ∷ []) c.one-item.is ∙ sym (take_more asked i one c.loop-one-test.true))
          (one_written R (take i asked) one old c.loop-one.bytes.items new c.loop-one.all c.in_ok-yes.yes c.loop-one.invariant.written
          c.in_ok-yes.ensures.report));
    }

pub returns : goal.returns
returns c = subst (λ (items : List AskedLine). WritesEach (IsAskedReport c.args.checked.now.network) items c.args.bytes.now.items c.loop-one.bytes.items
    c.loop-one.all)
    (take_all c.loop-one.one-index c.args.asked.now c.loop-one-test.false) c.loop-one.invariant.written
