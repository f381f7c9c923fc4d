-- The lines of a text that are left, one after the other. Public: crates above cite these lemmas.
use Rattle.std.proofs.Common.{◌≡◌, ℕ, ◌+◌, ◌<◌, ◌≤◌, true, List, [], ◌∷◌, length, map, refl, sym, ap, ◌∙◌, arith}
use Rattle.cfg_ast.specs.text.Lines.{begins_line, newline_from, without_return, Piece, pieces_from, line_of}
use Rattle.cfg_ast.specs.text.Members.{all_lines_of}
use Rattle.cfg_ast.specs.text.TextLines.{TextLine, text_line}
use Rattle.cfg_ast.proofs.Pieces.{pieces_next, pieces_end}

-- the lines from a place on, the first of which has this number
abbrev pub left_from : List ℕ → ℕ → ℕ → List TextLine
left_from bs n from = map (text_line bs) (map (line_of bs) (pieces_from bs n from))

-- a line that was cut off the front
pub record Cut (bs : List ℕ) (from end upto : ℕ) : Type 0 where
  pub inside : from < length bs
  pub begins : begins_line bs from ≡ true
  pub to_newline : end ≡ newline_from bs from
  pub less_return : upto ≡ without_return bs from end
  pub front : from ≤ upto
  pub short : upto ≤ length bs

-- what was cut off, as a piece of the text
abbrev pub cut_piece : ℕ → ℕ → ℕ → Piece
cut_piece n from upto = record { number = n; from = from; upto = upto }

-- the first piece, and those behind it
pub front_is : (bs : List ℕ) (n from end upto : ℕ) → Cut bs from end upto → pieces_from bs n from ≡ cut_piece n from upto ∷ pieces_from bs (n + 1) (end + 1)
front_is bs n from end upto cut =
    let place : upto ≡ without_return bs from (newline_from bs from) = cut.less_return ∙ ap (without_return bs from) cut.to_newline in
    pieces_next bs n from cut.inside cut.begins
    ∙ ap (λ (e : ℕ). cut_piece n from e ∷ pieces_from bs (n + 1) (newline_from bs from + 1)) (sym place)
    ∙ ap (λ (e : ℕ). cut_piece n from upto ∷ pieces_from bs (n + 1) (e + 1)) (sym cut.to_newline)

pub left_is : (bs : List ℕ) (n from end upto : ℕ) → Cut bs from end upto
    → left_from bs n from ≡ text_line bs (line_of bs (cut_piece n from upto)) ∷ left_from bs (n + 1) (end + 1)
left_is bs n from end upto cut = ap (λ (ps : List Piece). map (text_line bs) (map (line_of bs) ps)) (front_is bs n from end upto cut)

pub count_left : (bs : List ℕ) (n from end upto : ℕ) → Cut bs from end upto → length (pieces_from bs n from) ≡ 1 + length (pieces_from bs (n + 1) (end + 1))
count_left bs n from end upto cut = ap length (front_is bs n from end upto cut) ∙ omega arith

pub none_counted : (bs : List ℕ) (n from : ℕ) → length bs ≤ from → length (pieces_from bs n from) ≡ 0
none_counted bs n from le = ap length (pieces_end bs n from le)

pub lines_counted : (bs : List ℕ) → length (pieces_from bs 1 0) ≡ length (all_lines_of bs)
lines_counted bs = sym (map_length (line_of bs) (pieces_from bs 1 0))
  where
    map_length : {X Y : Type 0} (f : X → Y) (xs : List X) → length (map f xs) ≡ length xs
    map_length f [] = refl
    map_length f (x ∷ xs) = omega (arith, map_length f xs)
