use Rattle.std.proofs.Common.{◌∙◌, sym, length, arith}
use Rattle.cfg_lex.specs.Odd.{is_letter}
use Rattle.cfg_lex.proofs.Runs.{run_ends, run_goes_on}
use Rattle.cfg_lex.proofs.places.letters_end.Goals as goal

pub returns-then-run-lt-LANES-clause-place : goal.returns-then-run-lt-LANES-clause-place
returns-then-run-lt-LANES-clause-place c =
    sym (run_ends is_letter c.args.bytes.now c.loop-i.i 16 (length c.args.bytes.now) c.letter_run-run.result (omega arith) c.letter_run-run.ensures
    (omega arith))
    ∙ c.loop-i.invariant.2

pub loop-i-preserved : goal.loop-i-preserved
loop-i-preserved c = (
  omega arith,
  omega arith,
  run_goes_on is_letter c.args.bytes.now c.loop-i.i 16 (length c.args.bytes.now) c.letter_run-run.result (omega arith) c.letter_run-run.ensures (omega arith)
      ∙ c.loop-i.invariant.2,
)
