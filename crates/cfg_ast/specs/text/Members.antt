-- The names on the `! member` lines of a text, router by router. For the reader of the network such a
-- line is a comment. A text is read for its members even if it has faults.
use Rattle.std.specs.Prelude.{ℕ, ◌≤◌, Bool, ◌&&◌, List, [], ◌∷◌, length, ◌==◌, map, filter_map, if◌then◌else◌, Option, Some, None, codes, bytes_eq}
use Rattle.std.specs.List.{slice_split, AllByRecursion}
use Rattle.cfg_ast.specs.declared.line.Line.{Line}
use Rattle.cfg_ast.specs.declared.line.Span.{Span}
use Rattle.cfg_ast.specs.text.Lines.{pieces_from, line_of}
use Rattle.cfg_ast.specs.text.TextLines.{TextLine, text_line}
use Rattle.cfg_ast.specs.text.Words.{is_router_name}
use Rattle.cfg_ast.specs.text.Reading.{is_end}

-- all lines of a text, those that are skipped among them, however many and however long
abbrev pub all_lines_of : List ℕ → List Line
all_lines_of bs = map (line_of bs) (pieces_from bs 1 0)

-- the word lies in the text
abbrev pub IsSpanIn : List ℕ → Span → Type 0
IsSpanIn bs w = (w.from ≤ w.upto) × (w.upto ≤ length bs)

-- the words of the line lie in the text
abbrev pub AreSpansIn : List ℕ → Line → Type 0
AreSpansIn bs line = AllByRecursion (IsSpanIn bs) line.words

-- the top line `end`
abbrev pub is_end_line : TextLine → Bool
is_end_line l = l.indent == 0 && is_end l.words

-- the name on a line whose words are `!`, `member` and the name of a router
unfoldable pub member_on : List (List ℕ) → Option (List ℕ)
member_on (mark ∷ word ∷ name ∷ []) = if bytes_eq mark (codes "!") && bytes_eq word (codes "member") && is_router_name name then Some name else None
member_on _ = None

abbrev pub members_on : List TextLine → List (List ℕ)
members_on ls = filter_map (λ (l : TextLine). member_on l.words) ls

-- all parts but the last one
abbrev pub before_last : {X : Type 0} → List X → List X
before_last [] = []
before_last (x ∷ []) = []
before_last (x ∷ y ∷ xs) = x ∷ before_last (y ∷ xs)

-- for each top line `end`, the lines before it and behind the one before
abbrev pub ended_parts : List TextLine → List (List TextLine)
ended_parts ls = before_last (slice_split is_end_line ls)

abbrev pub members_in : List TextLine → List (List (List ℕ))
members_in ls = map members_on (ended_parts ls)

-- for each top line `end`, the names on the member lines before it
unfoldable pub members_of_text : List ℕ → List (List (List ℕ))
members_of_text bs = members_in (map (text_line bs) (all_lines_of bs))
