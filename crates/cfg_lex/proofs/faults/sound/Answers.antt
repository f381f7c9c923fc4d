use Rattle.std.proofs.Common.{◌+◌, sym, ap, ◌∙◌, refl, arith}
use Rattle.cfg_ast.specs.text.Lines.{begins_line, newline_from, without_return}
use Rattle.cfg_ast.proofs.Pieces.{begins_next}
use Rattle.cfg_lex.proofs.Odd.{Ends, sound_closed, closed_newline, closed_return, closed_kind}
use Rattle.cfg_lex.proofs.Taken.{Cut, sound_next, sound_fault, sound_end}
use Rattle.cfg_lex.proofs.faults.sound.Goals as goal

pub returns-in-Some : goal.returns-in-Some
returns-in-Some c =
    let bs = c.args.bytes.now in
    let n = c.loop-from.number + 1 in
    let from = c.loop-from.from in
    let end = newline_from bs from in
    let cut : Cut bs n from end (without_return bs from end) = record {
      inside = c.loop-from-test.true;
      begins = c.loop-from.invariant.begins c.loop-from-test.true;
      to_newline = refl;
      less_return = refl;
    } in
    sound_fault bs n from end (without_return bs from end) c.in-Some.kind _ cut (sym c.kind_from.ensures ∙ c.in-Some.is) c.loop-from.invariant.same

pub loop-from-preserved : goal.loop-from-preserved
loop-from-preserved c =
    let bs = c.args.bytes.now in
    let n = c.loop-from.number + 1 in
    let from = c.loop-from.from in
    let upto = c.odd_from-upto.result in
    let end = c.behind_return-end.result in
    let ends : Ends bs from upto end = record {
      inside = omega (arith, c.loop-from-test.true);
      odd = c.odd_from-upto.ensures.place;
      behind = c.behind_return-end.ensures.place;
    } in
    let closed = sound_closed bs n from upto end ends (sym c.kind_from.ensures ∙ c.in_default.is) in
    let newline = closed_newline bs from upto end ends closed in
    let cut : Cut bs n from end upto = record {
      inside = c.loop-from-test.true;
      begins = c.loop-from.invariant.begins c.loop-from-test.true;
      to_newline = sym newline;
      less_return = sym (closed_return bs from upto end ends);
    } in
    record {
      few = omega arith;
      inside = omega arith;
      begins = λ h. ap (λ e. begins_line bs (e + 1)) (sym newline) ∙ begins_next bs from c.loop-from-test.true (omega (arith, h, newline));
      same = sound_next bs n from end upto _ cut (sym (closed_kind bs n from upto end ends closed) ∙ sym c.kind_from.ensures ∙ c.in_default.is)
          c.loop-from.invariant.same;
    }

pub returns : goal.returns
returns c = sound_end c.args.bytes.now (c.loop-from.number + 1) c.loop-from.from _ (omega (arith, c.loop-from-test.false)) c.loop-from.invariant.same
