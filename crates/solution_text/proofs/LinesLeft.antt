-- The lines of a text that are left, one after the other.
use Rattle.std.proofs.Common.{◌≡◌, ℕ, ◌+◌, ◌<◌, ◌≤◌, Bool, true, false, List, [], ◌∷◌, length, map, refl, sym, ap, ◌∙◌, arith, Option, Some, None, Result, Ok, Err}
use Rattle.std.specs.Prelude.{bytes_eq}
use Rattle.std.specs.List.{slice_range, position}
use Rattle.std.proofs.Math.ListN.{length-set}
use Rattle.base_kit.specs.declared.protocol.Protocol.{Protocol}
use Rattle.cfg_ast.specs.text.Lines.{Piece, line_of, words_between, words_of, texts}
use Rattle.cfg_ast.specs.text.TextLines.{TextLine, text_line}
use Rattle.cfg_ast.proofs.Pieces.{pieces_end}
use Rattle.cfg_ast.proofs.SameWords.{same_words}
use Rattle.cfg_lex.proofs.LinesLeft.{Cut, cut_piece, left_from, left_is}
use Rattle.srp_core.specs.declared.route.Route.{Route}
use Rattle.solution_text.specs.declared.refusal.SolRefusal.{SolRefusal}
use Rattle.solution_text.specs.declared.refusal.SolRefusal.TheVariants as sol_refusal
use Rattle.solution_text.specs.Answers.{ReadsSolution}
use Rattle.solution_text.specs.Forms.{NamedLabel, named_label_of}
use Rattle.solution_text.specs.Solutions.{is_foreign}
use Rattle.solution_text.specs.Steps.{LabelsSoFar, has_line, with_label_at, with_label, with_place, with_named_label, with_words, labels_at_end, answer_from}
use Rattle.solution_text.proofs.Judging.{answer_next, answer_fault, answer_done, named_at}

module _ (protocol : Protocol) (place_of : List ℕ → Option ℕ) (last : ℕ) (bs : List ℕ) (n from end upto : ℕ)
    (cut : Cut bs from end upto) (s : LabelsSoFar) where
  said_words : (r : Result LabelsSoFar SolRefusal) → with_words protocol place_of n s (words_of (slice_range bs from upto)) ≡ r →
      with_words protocol place_of n s (texts bs (words_between bs from upto)) ≡ r
  said_words r e = ap (with_words protocol place_of n s) (same_words bs from upto cut.front cut.short) ∙ e

  pub left_next : (next : LabelsSoFar) → with_words protocol place_of n s (words_of (slice_range bs from upto)) ≡ Ok next →
      answer_from protocol place_of last (left_from bs n from) s ≡ answer_from protocol place_of last (left_from bs (n + 1) (end + 1)) next
  left_next next e =
      ap (λ (ls : List TextLine). answer_from protocol place_of last ls s) (left_is bs n from end upto cut)
      ∙ answer_next protocol place_of last (text_line bs (line_of bs (cut_piece n from upto))) (left_from bs (n + 1) (end + 1)) s next (said_words (Ok next) e)

  pub left_fault : (fault : SolRefusal) → with_words protocol place_of n s (words_of (slice_range bs from upto)) ≡ Err fault →
      answer_from protocol place_of last (left_from bs n from) s ≡ Err fault
  left_fault fault e =
      ap (λ (ls : List TextLine). answer_from protocol place_of last ls s) (left_is bs n from end upto cut)
      ∙ answer_fault protocol place_of last (text_line bs (line_of bs (cut_piece n from upto))) (left_from bs (n + 1) (end + 1)) s fault
      (said_words (Err fault) e)

pub none_left : (protocol : Protocol) (place_of : List ℕ → Option ℕ) (last : ℕ) (bs : List ℕ) (n from : ℕ) (s : LabelsSoFar) → length bs ≤ from →
    answer_from protocol place_of last (left_from bs n from) s ≡ labels_at_end last s
none_left protocol place_of last bs n from s le =
    ap (λ (ps : List Piece). answer_from protocol place_of last (map (text_line bs) (map (line_of bs) ps)) s) (pieces_end bs n from le)
    ∙ answer_done protocol place_of last s

-- ---- a line keeps how many routers there are

label_count : (protocol : Protocol) (n : ℕ) (s : LabelsSoFar) (k : ℕ) (l : Option Route) (b c : Bool) (next : LabelsSoFar) → has_line s k ≡ b →
    is_foreign protocol l ≡ c → with_label protocol n s k l ≡ Ok next → length next.seen ≡ length s.seen
label_count protocol n s k l true c next t f e = absurd (let w = rw t at e in cc)
label_count protocol n s k l false true next t f e = absurd (let w = rw (t, f) at e in cc)
label_count protocol n s k l false false next t f e = let w : with_label_at s k l ≡ next = (let v = rw (t, f) at e in cc) in
    ap (λ (x : LabelsSoFar). length x.seen) (sym w) ∙ length-set s.seen k true

place_count : (protocol : Protocol) (n : ℕ) (s : LabelsSoFar) (l : Option Route) (p : Option ℕ) (next : LabelsSoFar) → with_place protocol n s l p ≡ Ok next →
    length next.seen ≡ length s.seen
place_count protocol n s l None next e = absurd cc
place_count protocol n s l (Some k) next e = label_count protocol n s k l (has_line s k) (is_foreign protocol l) next refl refl e

saying_count : (protocol : Protocol) (place_of : List ℕ → Option ℕ) (n : ℕ) (s : LabelsSoFar) (o : Option NamedLabel) (next : LabelsSoFar) →
    with_named_label protocol place_of n s o ≡ Ok next → length next.seen ≡ length s.seen
saying_count protocol place_of n s None next e = absurd cc
saying_count protocol place_of n s (Some says) next e = place_count protocol n s says.label (place_of says.name) next e

pub words_count : (protocol : Protocol) (place_of : List ℕ → Option ℕ) (n : ℕ) (s : LabelsSoFar) (ws : List (List ℕ)) (next : LabelsSoFar) →
    with_words protocol place_of n s ws ≡ Ok next → length next.seen ≡ length s.seen
words_count protocol place_of n s [] next e = let same : s ≡ next = cc in ap (λ (x : LabelsSoFar). length x.seen) (sym same)
words_count protocol place_of n s (w ∷ ws) next e = saying_count protocol place_of n s (named_label_of (w ∷ ws)) next e

-- ---- answers

-- a refusal of a step is one of the whole
pub refused_too : {X Y : Type 0} (e : SolRefusal) (step : Result X SolRefusal) (whole : Result Y SolRefusal) →
    ((fault : SolRefusal) → step ≡ Err fault → whole ≡ Err fault) → ReadsSolution {X = X} (Err e) step → ReadsSolution {X = Y} (Err e) whole
refused_too sol_refusal.Memory step whole same reads = tt
refused_too (sol_refusal.At line kind) step whole same reads = same (sol_refusal.At line kind) reads

-- the names of a list have places in it
pub places_within : (names : List (List ℕ)) (place_of : List ℕ → Option ℕ) (count : ℕ) →
    ((wanted : List ℕ) → place_of wanted ≡ position (bytes_eq wanted) names) → count ≡ length names → (wanted : List ℕ) (place : ℕ) →
    place_of wanted ≡ Some place → place < count
places_within names place_of count are same wanted place at = omega (arith, (named_at [] wanted names place (sym (are wanted) ∙ at)).0, same)
