-- The lines of a text from a place on, taken one by one.
use Rattle.std.specs.Prelude.{◌≡◌, ℕ, ◌+◌, ◌≤◌, ◌<◌, true, List, [], ◌∷◌, length, if◌then◌else◌, is_ok, Option, Some, None, Result, Ok, Err}
use Rattle.cfg_ast.specs.declared.line.Line.{Line}
use Rattle.cfg_ast.specs.declared.refusal.ReadRefusal.{ReadRefusal}
use Rattle.cfg_ast.specs.text.Lines.{pieces_from, begins_line, lines_in, are_kept, words_between, indent_between, IsLineIn}
use Rattle.cfg_lex.specs.declared.following.Place.{Place}

-- the refusal alone
abbrev pub without_value : {X : Type 0} → Result X ReadRefusal → Result (Unit {0}) ReadRefusal
without_value (Ok x) = Ok tt
without_value (Err fault) = Err fault

-- a line before others
abbrev pub put_first : Line → Result (List Line) ReadRefusal → Result (List Line) ReadRefusal
put_first line (Ok lines) = Ok (line ∷ lines)
put_first line (Err fault) = Err fault

-- the lines from the place on that are not skipped, or the first fault of any line there
abbrev pub lines_from : List ℕ → Place → Result (List Line) ReadRefusal
lines_from bs place = lines_in bs (pieces_from bs (place.number + 1) place.from)

-- a line begins at the place, or the text ends before it
pub record IsPlace (bs : List ℕ) (place : Place) : Type 0 where
  pub few : place.number ≤ place.from
  pub inside : place.from ≤ length bs + 1
  pub begins : place.from < length bs → begins_line bs place.from ≡ true

-- the line between two places, unless it is skipped
abbrev pub kept_line : List ℕ → ℕ → ℕ → ℕ → Option Line
kept_line bs number from upto =
    if are_kept bs (words_between bs from upto) then Some (record { number = number; indent = indent_between bs from upto; words = words_between bs from upto })
    else None

-- the line is the first of the lines from the place on, and the others are those from the next place on
pub record IsFirst (bs : List ℕ) (place next : Place) (line : Line) : Type 0 where
  pub first : lines_from bs place ≡ put_first line (lines_from bs next)
  pub lies : IsLineIn bs line
  pub beyond : place.from < next.from
  pub is_place : IsPlace bs next
  pub sound : is_ok (lines_from bs next) ≡ true

-- what follows a place: a line and the place behind it, or nothing
abbrev pub IsNext : List ℕ → Place → Option (Line × Place) → Type 0
IsNext bs place None = lines_from bs place ≡ Ok []
IsNext bs place (Some (line, next)) = IsFirst bs place next line
