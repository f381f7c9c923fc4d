-- Lines that are printed.
use Rattle.std.proofs.Common.{ℕ, ◌≤◌, Bool, false, not, List, [], ◌∷◌, length, get_or}
use Rattle.std.specs.Prelude.{◌==◌}
use Rattle.std.specs.List.{AllByRecursion}
use Rattle.cfg_ast.specs.text.TextLines.{TextLine}
use Rattle.cfg_ast.specs.printing.WellFormed.{IsBetween}

-- at least one byte, and each prints and is no blank
abbrev pub IsPrintedWord : List ℕ → Type 0
IsPrintedWord word = (1 ≤ length word) × AllByRecursion (IsBetween 33 126) word

pub record IsPrintedLine (l : TextLine) : Type 0 where
  pub some : 1 ≤ length l.words
  pub words : AllByRecursion IsPrintedWord l.words

-- the first word does not begin with `!`
abbrev pub are_read : List (List ℕ) → Bool
are_read [] = false
are_read (word ∷ words) = not (get_or word 0 0 == 33)

abbrev pub is_read : TextLine → Bool
is_read l = are_read l.words
