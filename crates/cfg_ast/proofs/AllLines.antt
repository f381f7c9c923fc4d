-- All lines of a text, taken from the front, and that their words lie in the text.
use Rattle.std.proofs.Common.{◌≡◌, ℕ, ◌+◌, ◌<◌, ◌≤◌, true, List, [], ◌∷◌, ◌++◌, map, length, get_or, All, sym, ap, ◌∙◌, arith, append_assoc}
use Rattle.std.proofs.lemmas.List.{append-nil}
use Rattle.std.proofs.lemmas.List.Elements.{All-map, recursion_from_All}
use Rattle.cfg_ast.specs.declared.line.Span.{Span}
use Rattle.cfg_ast.specs.declared.line.Line.{Line}
use Rattle.cfg_ast.specs.text.Lines.{begins_line, newline_from, without_return, words_between, indent_between, Piece, pieces_from, piece_at, line_of}
use Rattle.cfg_ast.specs.text.Members.{all_lines_of, IsSpanIn, AreSpansIn}
use Rattle.cfg_ast.proofs.Pieces.{pieces_next, pieces_end}
use Rattle.cfg_ast.proofs.Within.{Lies, words_lie, pieces_lie}

spans_lie : (bs : List ℕ) (p : Piece) → Lies bs p → AreSpansIn bs (line_of bs p)
spans_lie bs p lies =
    recursion_from_All (IsSpanIn bs) (words_between bs p.from p.upto) (λ k d lt. let there = words_lie bs p.from p.upto lies.front k d lt in
    (there.1, omega (arith, there.2, lies.inside)))

pub all_lines_lie : (bs : List ℕ) → All (AreSpansIn bs) (all_lines_of bs)
all_lines_lie bs = All-map (AreSpansIn bs) (line_of bs) (pieces_from bs 1 0)
    (λ k d lt. spans_lie bs (get_or (pieces_from bs 1 0) k d) (pieces_lie bs 1 0 k d lt))

-- a line is put to those before it
pub every_line_read : (bs : List ℕ) (n from end upto dent : ℕ) (ws : List Span) (found found' all : List Line) → from < length bs → begins_line bs from ≡ true →
    end ≡ newline_from bs from → upto ≡ without_return bs from end → ws ≡ words_between bs from upto → dent ≡ indent_between bs from upto
    → found' ≡ found ++ record { number = n; indent = dent; words = ws } ∷ []
    → found ++ map (line_of bs) (pieces_from bs n from) ≡ all → found' ++ map (line_of bs) (pieces_from bs (n + 1) (end + 1)) ≡ all
every_line_read bs n from end upto dent ws found found' all inside begins to_newline less_return has_words dented grown given =
    let line : Line = record { number = n; indent = dent; words = ws } in
    let place : upto ≡ without_return bs from (newline_from bs from) = less_return ∙ ap (without_return bs from) to_newline in
    let is_line : line ≡ line_of bs (piece_at bs (n, from)) =
    ap (λ (d : ℕ). let l : Line = record { number = n; indent = d; words = ws } in l) (dented ∙ ap (indent_between bs from) place)
    ∙ ap (λ (w : List Span). let l : Line = record {
      number = n;
      indent = indent_between bs from (without_return bs from (newline_from bs from));
      words =
          w;
    } in l) (has_words ∙ ap (words_between bs from) place) in
    let rest : map (line_of bs) (pieces_from bs n from) ≡ line ∷ map (line_of bs) (pieces_from bs (n + 1) (end + 1)) =
    ap (map (line_of bs)) (pieces_next bs n from inside begins)
    ∙ ap (λ (l : Line). l ∷ map (line_of bs) (pieces_from bs (n + 1) (newline_from bs from + 1))) (sym is_line)
    ∙ ap (λ (e : ℕ). line ∷ map (line_of bs) (pieces_from bs (n + 1) (e + 1))) (sym to_newline) in
    ap (λ (f : List Line). f ++ map (line_of bs) (pieces_from bs (n + 1) (end + 1))) grown
    ∙ append_assoc found (line ∷ []) (map (line_of bs) (pieces_from bs (n + 1) (end + 1))) ∙ ap (λ (xs : List Line). found ++ xs) (sym rest) ∙ given

pub every_line_done : (bs : List ℕ) (n from : ℕ) (found all : List Line) → length bs ≤ from → found ++ map (line_of bs) (pieces_from bs n from) ≡ all →
    found ≡ all
every_line_done bs n from found all le given = sym (ap (λ (ps : List Piece). found ++ map (line_of bs) ps) (pieces_end bs n from le) ∙ append-nil found) ∙ given
