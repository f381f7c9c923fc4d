-- The lines of a text that are left, one after the other.
use Rattle.std.proofs.Common.{◌≡◌, ℕ, ◌+◌, ◌≤◌, List, [], ◌∷◌, length, map, refl, ap, ◌∙◌, Option, Result, Ok, Err}
use Rattle.std.specs.List.{slice_range}
use Rattle.base_kit.specs.declared.act_graph.Edge.{Edge}
use Rattle.cfg_ast.specs.text.Lines.{Piece, line_of, words_between, words_of, texts}
use Rattle.cfg_ast.specs.text.TextLines.{TextLine, text_line}
use Rattle.cfg_ast.proofs.Pieces.{pieces_end}
use Rattle.cfg_ast.proofs.SameWords.{same_words}
use Rattle.cfg_lex.proofs.LinesLeft.{Cut, cut_piece, left_from, left_is}
use Rattle.cut_certificate.specs.declared.refusal.CutKind.{CutKind}
use Rattle.cut_certificate.specs.declared.refusal.CutRefusal.TheVariants.{At}
use Rattle.cut_certificate.specs.Texts.{Standing, with_line, ended, go_on, certificate_from}

-- ---- steps

from_next : (edges : List Edge) (routers : List ℕ → Option ℕ) (last : ℕ) (l : TextLine) (ls : List TextLine) (s next : Standing)
    → with_line edges routers s l.words ≡ Ok next → certificate_from edges routers last (l ∷ ls) s ≡ certificate_from edges routers last ls next
unfolding certificate_from
from_next edges routers last l ls s next e = ap (λ r. go_on l.number r (certificate_from edges routers last ls)) e

from_fault : (edges : List Edge) (routers : List ℕ → Option ℕ) (last : ℕ) (l : TextLine) (ls : List TextLine) (s : Standing) (kind : CutKind)
    → with_line edges routers s l.words ≡ Err kind → certificate_from edges routers last (l ∷ ls) s ≡ Err (At l.number kind)
unfolding certificate_from
from_fault edges routers last l ls s kind e = ap (λ r. go_on l.number r (certificate_from edges routers last ls)) e

from_none : (edges : List Edge) (routers : List ℕ → Option ℕ) (last : ℕ) (s : Standing) → certificate_from edges routers last [] s ≡ ended last s s.stage
unfolding certificate_from
from_none edges routers last s = refl

module _ (edges : List Edge) (routers : List ℕ → Option ℕ) (last : ℕ) (bs : List ℕ) (n from end upto : ℕ) (cut : Cut bs from end upto) (s : Standing) where
  said_words : (r : Result Standing CutKind) → with_line edges routers s (words_of (slice_range bs from upto)) ≡ r
      → with_line edges routers s (texts bs (words_between bs from upto)) ≡ r
  said_words r e = ap (with_line edges routers s) (same_words bs from upto cut.front cut.short) ∙ e

  pub left_next : (next : Standing) → with_line edges routers s (words_of (slice_range bs from upto)) ≡ Ok next
      → certificate_from edges routers last (left_from bs n from) s ≡ certificate_from edges routers last (left_from bs (n + 1) (end + 1)) next
  left_next next e =
      ap (λ (ls : List TextLine). certificate_from edges routers last ls s) (left_is bs n from end upto cut)
      ∙ from_next edges routers last (text_line bs (line_of bs (cut_piece n from upto))) (left_from bs (n + 1) (end + 1)) s next (said_words (Ok next) e)

  pub left_fault : (kind : CutKind) → with_line edges routers s (words_of (slice_range bs from upto)) ≡ Err kind
      → certificate_from edges routers last (left_from bs n from) s ≡ Err (At n kind)
  left_fault kind e =
      ap (λ (ls : List TextLine). certificate_from edges routers last ls s) (left_is bs n from end upto cut)
      ∙ from_fault edges routers last (text_line bs (line_of bs (cut_piece n from upto))) (left_from bs (n + 1) (end + 1)) s kind (said_words (Err kind) e)

pub none_left : (edges : List Edge) (routers : List ℕ → Option ℕ) (last : ℕ) (bs : List ℕ) (n from : ℕ) (s : Standing) → length bs ≤ from
    → certificate_from edges routers last (left_from bs n from) s ≡ ended last s s.stage
none_left edges routers last bs n from s le = ap (λ (ps : List Piece). certificate_from edges routers last (map (text_line bs) (map (line_of bs) ps)) s)
    (pieces_end bs n from le) ∙ from_none edges routers last s
