-- The lines of a text, by where its newlines stand, and their words, the longest runs of bytes that
-- are no blanks. The lines of a text are ASCII (RFC 20), without control bytes except the tab.
use Rattle.std.specs.Prelude.{ℕ, ◌+◌, ◌-◌, ◌≤◌, Bool, true, false, not, ◌&&◌, ◌||◌, List, [], ◌∷◌, length, map, filter, slice_index, ◌==◌, nat_lt, nat_le, if◌then◌else◌, Option, Some, None, Result, Ok, Err}
use Rattle.std.specs.Option.{option_map}
use Rattle.std.specs.List.{range_with_len, position_or_len, enumerate_from, filter_map, slice_split, slice_range, AllByRecursion}
use Rattle.std.specs.Str.{IsAscii}
use Rattle.cfg_ast.specs.declared.line.Span.{Span}
use Rattle.cfg_ast.specs.declared.line.Line.{Line}
use Rattle.cfg_ast.specs.declared.refusal.Kind.{Kind}
use Rattle.cfg_ast.specs.declared.refusal.Kind.TheVariants.{NotAscii, LineTooLong, TooManyLines}
use Rattle.cfg_ast.specs.declared.refusal.ReadRefusal.{ReadRefusal}
use Rattle.cfg_ast.specs.declared.refusal.ReadRefusal.TheVariants.{At}

-- the first place from i on where the test holds, or the end
unfoldable pub first_at : (ℕ → Bool) → ℕ → ℕ → ℕ
first_at test i upto = i + position_or_len test (range_with_len i (upto - i))

-- a blank or a tab
abbrev pub is_blank : ℕ → Bool
is_blank b = b == 32 || b == 9

-- a tab, or a byte that prints or is a blank
abbrev pub is_plain : ℕ → Bool
is_plain b = b == 9 || nat_le 32 b && nat_le b 126

abbrev pub blank_at : List ℕ → ℕ → Bool
blank_at bs i = is_blank (slice_index bs i)

abbrev pub newline_at : List ℕ → ℕ → Bool
newline_at bs i = slice_index bs i == 10

-- ---- where lines stand

-- a line of the text: its number, and its places without its newline and the carriage return before it
pub record Piece : Type 0 where
  pub number : ℕ
  pub from : ℕ
  pub upto : ℕ

-- a line begins at the front of the text and behind each newline
abbrev pub begins_line : List ℕ → ℕ → Bool
begins_line bs i = i == 0 || newline_at bs (i - 1)

-- the place of the first newline from here on, or the end of the text
abbrev pub newline_from : List ℕ → ℕ → ℕ
newline_from bs i = first_at (newline_at bs) i (length bs)

-- the end of a line without one carriage return
abbrev pub without_return : List ℕ → ℕ → ℕ → ℕ
without_return bs from end = if nat_lt from end && slice_index bs (end - 1) == 13 then end - 1 else end

-- the line of this number that begins here
abbrev pub piece_at : List ℕ → ℕ × ℕ → Piece
piece_at bs (number, from) = record { number = number; from = from; upto = without_return bs from (newline_from bs from) }

-- the lines from a place on, of which the first has this number
unfoldable pub pieces_from : List ℕ → ℕ → ℕ → List Piece
pieces_from bs number i = map (piece_at bs) (enumerate_from number (filter (begins_line bs) (range_with_len i (length bs - i))))

-- ---- what a line has

-- a word begins at each byte that is no blank and has none before it in its line
abbrev pub begins_word : List ℕ → ℕ → ℕ → Bool
begins_word bs from i = not (blank_at bs i) && (i == from || blank_at bs (i - 1))

-- the first blank from here on, or the end of the line
abbrev pub word_end : List ℕ → ℕ → ℕ → ℕ
word_end bs i upto = first_at (blank_at bs) i upto

abbrev pub word_at : List ℕ → ℕ → ℕ → Span
word_at bs upto i = record { from = i; upto = word_end bs i upto }

-- the words between two places
unfoldable pub words_between : List ℕ → ℕ → ℕ → List Span
words_between bs from upto = map (word_at bs upto) (filter (begins_word bs from) (range_with_len from (upto - from)))

-- how many blanks and tabs lead a line
abbrev pub indent_between : List ℕ → ℕ → ℕ → ℕ
indent_between bs from upto = first_at (λ i. not (blank_at bs i)) from upto - from

abbrev pub line_of : List ℕ → Piece → Line
line_of bs p = record { number = p.number; indent = indent_between bs p.from p.upto; words = words_between bs p.from p.upto }

-- there are words, and the first does not begin with `!`
abbrev pub are_kept : List ℕ → List Span → Bool
are_kept bs [] = false
are_kept bs (w ∷ ws) = not (slice_index bs w.from == 33)

-- the line is not skipped
abbrev pub is_kept : List ℕ → Piece → Bool
is_kept bs p = are_kept bs (words_between bs p.from p.upto)

-- ---- the faults of lines

-- the first byte of a line that is not plain, or its end
abbrev pub odd_from : List ℕ → ℕ → ℕ → ℕ
odd_from bs from upto = first_at (λ i. not (is_plain (slice_index bs i))) from upto

-- the least kind of fault that a line has
abbrev pub kind_at : List ℕ → Piece → Option Kind
kind_at bs p =
    if nat_lt (odd_from bs p.from p.upto) p.upto then Some NotAscii
    else (if nat_lt 1024 (p.upto - p.from) then Some LineTooLong
    else (if nat_lt 1000000 p.number then Some TooManyLines
    else None))

-- the faults of a text, in the order of its lines
abbrev pub line_faults : List ℕ → List Piece → List ReadRefusal
line_faults bs ps = filter_map (λ (p : Piece). option_map (At p.number) (kind_at bs p)) ps

abbrev pub unless_refused : {X : Type 0} → List ReadRefusal → X → Result X ReadRefusal
unless_refused [] x = Ok x
unless_refused (fault ∷ faults) x = Err fault

unfoldable pub lines_in : List ℕ → List Piece → Result (List Line) ReadRefusal
lines_in bs ps = unless_refused (line_faults bs ps) (map (line_of bs) (filter (is_kept bs) ps))

-- the lines that are not skipped, or the first fault of any line
abbrev pub lines_of : List ℕ → Result (List Line) ReadRefusal
lines_of bs = lines_in bs (pieces_from bs 1 0)

-- ---- words as texts

abbrev pub text_of : List ℕ → Span → List ℕ
text_of bs w = slice_range bs w.from w.upto

-- what the words say
abbrev pub texts : List ℕ → List Span → List (List ℕ)
texts bs ws = map (text_of bs) ws

abbrev pub is_some_word : List ℕ → Bool
is_some_word [] = false
is_some_word (b ∷ bs) = true

-- the words of a line, without places: what stands between its blanks and is not empty
unfoldable pub words_of : List ℕ → List (List ℕ)
words_of line = filter is_some_word (slice_split is_blank line)

-- the word lies in the text, and its bytes are ASCII
abbrev pub IsWordIn : List ℕ → Span → Type 0
IsWordIn bs w = (w.from ≤ w.upto) × (w.upto ≤ length bs) × IsAscii (text_of bs w)

-- the words of the line lie in the text, and their bytes are ASCII
abbrev pub IsLineIn : List ℕ → Line → Type 0
IsLineIn bs line = AllByRecursion (IsWordIn bs) line.words
