use Rattle.std.proofs.Common.{◌≡◌, drop}
use Rattle.std.specs.Option.{option_map}
use Rattle.cfg_ast.specs.text.Heads.{longest, longer}
use Rattle.cfg_ast.specs.text.Lines.{texts}
use Rattle.cfg_words.specs.Rows.{row_of, rows_of}
use Rattle.cfg_words.proofs.heads.longest.Given as goal

abbrev pub invariant-loop-row : goal.invariant-loop-row
invariant-loop-row l = longer (option_map row_of l.best) (longest (rows_of (drop l.row-index l.rows)) (texts l.bytes l.words)) ≡ longest (rows_of l.rows)
    (texts l.bytes l.words)
