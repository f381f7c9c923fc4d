-- Lines by what they say, without places.
use Rattle.std.specs.Prelude.{ℕ, List}
use Rattle.cfg_ast.specs.declared.line.Line.{Line}
use Rattle.cfg_ast.specs.text.Lines.{texts}

-- a line that is not skipped: its number, its indentation and what its words say
pub record TextLine : Type 0 where
  pub number : ℕ
  pub indent : ℕ
  pub words : List (List ℕ)

abbrev pub text_line : List ℕ → Line → TextLine
text_line bs line = record { number = line.number; indent = line.indent; words = texts bs line.words }
