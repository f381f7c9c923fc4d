use Rattle.std.proofs.Common.{◌+◌, sym, ap, ◌∙◌, refl, arith}
use Rattle.cfg_ast.specs.text.Lines.{begins_line, newline_from, without_return}
use Rattle.cfg_ast.proofs.Pieces.{Cut, line_read, line_faulty, lines_done, begins_next}
use Rattle.cfg_ast.proofs.Within.{lines_lie}
use Rattle.cfg_lex.proofs.Odd.{Ends, sound_closed, closed_newline, closed_return, closed_kind}
use Rattle.cfg_lex.proofs.cutting.lines.Goals as goal

pub returns-in-Some-clause-exact : goal.returns-in-Some-clause-exact
returns-in-Some-clause-exact c =
    let bs = c.args.bytes.now in
    let from = c.loop-from.from in
    let end = newline_from bs from in
    line_faulty bs (c.loop-from.number + 1) from end (without_return bs from end) c.in-Some.kind c.loop-from.found _ c.loop-from-test.true
    (c.loop-from.invariant.begins c.loop-from-test.true) refl refl (sym c.kind_from.ensures ∙ c.in-Some.is) c.loop-from.invariant.found

pub loop-from-preserved : goal.loop-from-preserved
loop-from-preserved c =
    let bs = c.args.bytes.now in
    let n = c.loop-from.number + 1 in
    let from = c.loop-from.from in
    let upto = c.odd_from-upto.result in
    let end = c.behind_return-end.result in
    let ends : Ends bs from upto end = record {
      inside = omega (arith, c.loop-from-test.true);
      odd = c.odd_from-upto.ensures.place;
      behind = c.behind_return-end.ensures.place;
    } in
    let closed = sound_closed bs n from upto end ends (sym c.kind_from.ensures ∙ c.in_default.is) in
    let newline = closed_newline bs from upto end ends closed in
    let cut : Cut bs n from end upto c.in_ok-words_between.field-0 = record {
      inside = c.loop-from-test.true;
      begins = c.loop-from.invariant.begins c.loop-from-test.true;
      to_newline = sym newline;
      less_return = sym (closed_return bs from upto end ends);
      has_words = c.in_ok-words_between.ensures;
      no_fault = sym (closed_kind bs n from upto end ends closed) ∙ sym c.kind_from.ensures ∙ c.in_default.is;
    } in
    record {
      few = omega arith;
      inside = omega arith;
      begins = λ h. ap (λ e. begins_line bs (e + 1)) (sym newline) ∙ begins_next bs from c.loop-from-test.true (omega (arith, h, newline));
      found = line_read bs n _ _ _ _ _ _ _ _ cut c.indent_between.ensures.value c.in_ok-keep.ensures c.loop-from.invariant.found;
    }

pub returns : goal.returns
returns c =
    let all = lines_done c.args.bytes.now (c.loop-from.number + 1) c.loop-from.from c.loop-from.found _ c.loop-from-test.false c.loop-from.invariant.found in
    record { exact = all; within = lines_lie c.args.bytes.now c.loop-from.found all }
