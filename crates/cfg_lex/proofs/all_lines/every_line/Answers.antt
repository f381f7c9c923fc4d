use Rattle.std.proofs.Common.{◌+◌, ap, ◌∙◌, arith}
use Rattle.cfg_ast.specs.text.Lines.{begins_line}
use Rattle.cfg_ast.proofs.Pieces.{begins_next}
use Rattle.cfg_ast.proofs.AllLines.{all_lines_lie, every_line_read, every_line_done}
use Rattle.cfg_lex.proofs.all_lines.every_line.Goals as goal

pub loop-from-preserved : goal.loop-from-preserved
loop-from-preserved c =
    let bs = c.args.bytes.now in
    record {
      few = omega arith;
      inside = omega arith;
      begins = λ h. ap (λ e. begins_line bs (e + 1)) c.newline_from-end.ensures.place
          ∙ begins_next bs c.loop-from.from c.loop-from-test.true (omega (arith, h, c.newline_from-end.ensures.place));
      found = every_line_read bs (c.loop-from.number + 1) c.loop-from.from c.newline_from-end.result c.without_return-upto.result _ _ _ _ _
          c.loop-from-test.true (c.loop-from.invariant.begins c.loop-from-test.true) c.newline_from-end.ensures.place c.without_return-upto.ensures.place
          c.in_ok-words_between.ensures c.indent_between.ensures.value c.in_ok-push.ensures.ok c.loop-from.invariant.found;
    }

pub returns : goal.returns
returns c =
    let all = every_line_done c.args.bytes.now (c.loop-from.number + 1) c.loop-from.from c.loop-from.found _ c.loop-from-test.false c.loop-from.invariant.found
    in
    record { exact = all; within = rw all (all_lines_lie c.args.bytes.now) }
