use Rattle.std.proofs.Common.{◌∙◌, sym, arith}
use Rattle.cfg_ast.specs.text.Lines.{is_plain}
use Rattle.cfg_lex.proofs.Runs.{run_ends, run_goes_on}
use Rattle.cfg_lex.proofs.places.odd_from.Goals as goal

pub returns-then-run-lt-LANES-clause-place : goal.returns-then-run-lt-LANES-clause-place
returns-then-run-lt-LANES-clause-place c =
    sym (run_ends is_plain c.args.bytes.now c.loop-i.i 16 c.args.upto c.plain_run-run.result (omega arith) c.plain_run-run.ensures (omega arith))
    ∙ c.loop-i.invariant.2

pub loop-i-preserved : goal.loop-i-preserved
loop-i-preserved c = (
  omega arith,
  omega arith,
  run_goes_on is_plain c.args.bytes.now c.loop-i.i 16 c.args.upto c.plain_run-run.result (omega arith) c.plain_run-run.ensures (omega arith)
      ∙ c.loop-i.invariant.2,
)
