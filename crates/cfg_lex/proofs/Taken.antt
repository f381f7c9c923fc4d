-- The first line from a place on, taken off.
use Rattle.std.proofs.Common.{◌≡◌, ℕ, ◌+◌, ◌<◌, ◌≤◌, Bool, true, false, List, [], ◌∷◌, length, refl, sym, ap, ◌∙◌, arith, Option, Some, None, Result, Ok, Err, subst, true≢false}
use Rattle.std.specs.Result.{is_ok}
use Rattle.cfg_ast.specs.declared.line.Line.{Line}
use Rattle.cfg_ast.specs.declared.line.Span.{Span}
use Rattle.cfg_ast.specs.declared.refusal.Kind.{Kind}
use Rattle.cfg_ast.specs.declared.refusal.ReadRefusal.{ReadRefusal}
use Rattle.cfg_ast.specs.declared.refusal.ReadRefusal.TheVariants.{At}
use Rattle.cfg_ast.specs.text.Lines.{begins_line, newline_from, without_return, Piece, piece_at, pieces_from, line_of, is_kept, are_kept, words_between, indent_between, kind_at, lines_in, IsLineIn}
use Rattle.cfg_ast.proofs.Pieces.{pieces_next, pieces_end, begins_next, lines_kept, lines_skipped, lines_fault, lines_none, with_front}
use Rattle.cfg_ast.proofs.Within.{line_lies}
use Rattle.cfg_lex.specs.declared.following.Place.{Place}
use Rattle.cfg_lex.specs.Odd.{odd_end, behind_return}
use Rattle.cfg_lex.proofs.Odd.{Ends, sound_closed, closed_newline, closed_return}
use Rattle.cfg_lex.specs.Places.{without_value, put_first, lines_from, IsPlace, kept_line, IsFirst}

-- A line that was cut off the front: where it begins and ends.
pub record Cut (bs : List ℕ) (n from end upto : ℕ) : Type 0 where
  pub inside : from < length bs
  pub begins : begins_line bs from ≡ true
  pub to_newline : end ≡ newline_from bs from
  pub less_return : upto ≡ without_return bs from end

abbrev piece : ℕ → ℕ → ℕ → Piece
piece n from upto = record { number = n; from = from; upto = upto }

is_piece : (bs : List ℕ) (n from end upto : ℕ) → end ≡ newline_from bs from → upto ≡ without_return bs from end → piece n from upto ≡ piece_at bs (n, from)
is_piece bs n from end upto e f = ap (piece n from) (f ∙ ap (without_return bs from) e)

front : (bs : List ℕ) (n from end upto : ℕ) → Cut bs n from end upto → pieces_from bs n from ≡ piece n from upto ∷ pieces_from bs (n + 1) (end + 1)
front bs n from end upto cut =
    pieces_next bs n from cut.inside cut.begins
    ∙ ap (λ (p : Piece). p ∷ pieces_from bs (n + 1) (newline_from bs from + 1)) (sym (is_piece bs n from end upto cut.to_newline cut.less_return))
    ∙ ap (λ (e : ℕ). piece n from upto ∷ pieces_from bs (n + 1) (e + 1)) (sym cut.to_newline)

-- ---- faults alone

valueless_kept : (bs : List ℕ) (p : Piece) (ps : List Piece) → kind_at bs p ≡ None → (b : Bool) → is_kept bs p ≡ b →
    without_value (lines_in bs (p ∷ ps)) ≡ without_value (lines_in bs ps)
valueless_kept bs p ps none true kept = ap without_value (lines_kept bs p ps none kept) ∙ same (lines_in bs ps)
  where
    same : (r : Result (List Line) ReadRefusal) → without_value (with_front (line_of bs p ∷ []) r) ≡ without_value r
    same (Ok ls) = refl
    same (Err e) = refl
valueless_kept bs p ps none false skipped = ap without_value (lines_skipped bs p ps none skipped)

pub sound_next : (bs : List ℕ) (n from end upto : ℕ) (all : Result (Unit {0}) ReadRefusal) → Cut bs n from end upto →
    kind_at bs (record { number = n; from = from; upto = upto }) ≡ None
    → without_value (lines_in bs (pieces_from bs n from)) ≡ all → without_value (lines_in bs (pieces_from bs (n + 1) (end + 1))) ≡ all
sound_next bs n from end upto all cut none given =
    let p = piece n from upto in
    sym (valueless_kept bs p (pieces_from bs (n + 1) (end + 1)) none (is_kept bs p) refl)
    ∙ ap (λ (ps : List Piece). without_value (lines_in bs ps)) (sym (front bs n from end upto cut)) ∙ given

pub sound_fault : (bs : List ℕ) (n from end upto : ℕ) (k : Kind) (all : Result (Unit {0}) ReadRefusal) → Cut bs n from end upto →
    kind_at bs (record { number = n; from = from; upto = upto }) ≡ Some k
    → without_value (lines_in bs (pieces_from bs n from)) ≡ all → Err (At n k) ≡ all
sound_fault bs n from end upto k all cut fault given =
    let p = piece n from upto in
    sym (ap without_value (lines_fault bs p (pieces_from bs (n + 1) (end + 1)) k fault))
    ∙ ap (λ (ps : List Piece). without_value (lines_in bs ps)) (sym (front bs n from end upto cut)) ∙ given

pub sound_end : (bs : List ℕ) (n from : ℕ) (all : Result (Unit {0}) ReadRefusal) → length bs ≤ from →
    without_value (lines_in bs (pieces_from bs n from)) ≡ all → Ok tt ≡ all
sound_end bs n from all le given = sym (ap (λ (ps : List Piece). without_value (lines_in bs ps)) (pieces_end bs n from le) ∙ ap without_value (lines_none bs))
    ∙ given

-- ---- one line

faultless : (bs : List ℕ) (p : Piece) (ps : List Piece) (o : Option Kind) → kind_at bs p ≡ o → is_ok (lines_in bs (p ∷ ps)) ≡ true → kind_at bs p ≡ None
faultless bs p ps None e ok = e
faultless bs p ps (Some k) e ok = absurd (true≢false (sym ok ∙ ap is_ok (lines_fault bs p ps k e)))

pub sound_here : (bs : List ℕ) (n from end upto : ℕ) → Cut bs n from end upto → is_ok (lines_in bs (pieces_from bs n from)) ≡ true →
    kind_at bs (record { number = n; from = from; upto = upto }) ≡ None
sound_here bs n from end upto cut ok =
    let p = piece n from upto in
    faultless bs p (pieces_from bs (n + 1) (end + 1)) (kind_at bs p) refl (ap (λ (ps : List Piece). is_ok (lines_in bs ps)) (sym (front bs n from end upto cut))
    ∙ ok)

first_by : (bs : List ℕ) (p : Piece) (ps : List Piece) → kind_at bs p ≡ None → is_kept bs p ≡ true →
    lines_in bs (p ∷ ps) ≡ put_first (line_of bs p) (lines_in bs ps)
first_by bs p ps none kept = lines_kept bs p ps none kept ∙ same (lines_in bs ps)
  where
    same : (r : Result (List Line) ReadRefusal) → with_front (line_of bs p ∷ []) r ≡ put_first (line_of bs p) r
    same (Ok ls) = refl
    same (Err e) = refl

skipped_by : (bs : List ℕ) (number from upto : ℕ) (b : Bool) → is_kept bs (piece number from upto) ≡ b → kept_line bs number from upto ≡ None →
    is_kept bs (piece number from upto) ≡ false
skipped_by bs number from upto true e none = let one = rw e at none in absurd cc
skipped_by bs number from upto false e none = e

pub line_passed : (bs : List ℕ) (n from end upto : ℕ) → Cut bs n from end upto → is_ok (lines_in bs (pieces_from bs n from)) ≡ true →
    kept_line bs n from upto ≡ None
    → lines_in bs (pieces_from bs n from) ≡ lines_in bs (pieces_from bs (n + 1) (end + 1))
line_passed bs n from end upto cut ok none =
    let p = piece n from upto in
    ap (lines_in bs) (front bs n from end upto cut)
    ∙ lines_skipped bs p (pieces_from bs (n + 1) (end + 1)) (sound_here bs n from end upto cut ok) (skipped_by bs n from upto (is_kept bs p) refl none)

-- what a line is that is not skipped
record Kept (bs : List ℕ) (p : Piece) (line : Line) : Type 0 where
  pub kept : is_kept bs p ≡ true
  pub is : line ≡ line_of bs p

kept_by : (bs : List ℕ) (number from upto : ℕ) (line : Line) (b : Bool) → is_kept bs (piece number from upto) ≡ b → kept_line bs number from upto ≡ Some line →
    Kept bs (piece number from upto) line
kept_by bs number from upto line true e some = record { kept = e; is = let one = rw e at some in cc }
kept_by bs number from upto line false e some = let one = rw e at some in absurd cc

rest_sound : (line : Line) (r s : Result (List Line) ReadRefusal) → r ≡ put_first line s → is_ok r ≡ true → is_ok s ≡ true
rest_sound line r (Ok ls) e ok = refl
rest_sound line r (Err fault) e ok = absurd (true≢false (sym ok ∙ ap is_ok e))

pub line_first : (bs : List ℕ) (n from end upto : ℕ) (place : Place) (line : Line) → Cut bs (n + 1) from end upto → from ≤ upto → upto ≤ length bs →
    is_ok (lines_from bs place) ≡ true
    → lines_in bs (pieces_from bs (n + 1) from) ≡ lines_from bs place → kept_line bs (n + 1) from upto ≡ Some line →
    IsPlace bs (record { number = n + 1; from = end + 1 }) → place.from ≤ from → from ≤ end
    → IsFirst bs place (record { number = n + 1; from = end + 1 }) line
line_first bs n from end upto place line cut le short ok same some is_place behind past =
    let p = piece (n + 1) from upto in
    let here = sound_here bs (n + 1) from end upto cut (ap is_ok same ∙ ok) in
    let taken = kept_by bs (n + 1) from upto line (is_kept bs p) refl some in
    let first : lines_from bs place ≡ put_first line (lines_from bs (record { number = n + 1; from = end + 1 })) =
    sym same ∙ ap (lines_in bs) (front bs (n + 1) from end upto cut) ∙ first_by bs p (pieces_from bs (n + 1 + 1) (end + 1)) here taken.kept
    ∙ ap (λ (l : Line). put_first l (lines_in bs (pieces_from bs (n + 1 + 1) (end + 1)))) (sym taken.is) in
    record {
      first = first;
      lies = subst (IsLineIn bs) (sym taken.is) (line_lies bs p (record { front = le; inside = short }) here);
      beyond = omega arith;
      is_place = is_place;
      sound = rest_sound line (lines_from bs place) (lines_from bs (record { number = n + 1; from = end + 1 })) first ok;
    }

pub none_left : (bs : List ℕ) (n from : ℕ) (all : Result (List Line) ReadRefusal) → length bs ≤ from → lines_in bs (pieces_from bs n from) ≡ all → all ≡ Ok []
none_left bs n from all le given = sym given ∙ ap (lines_in bs) (pieces_end bs n from le) ∙ lines_none bs

pub next_place : (bs : List ℕ) (n from end : ℕ) → n ≤ from → from < length bs → from ≤ end → end ≤ length bs → end ≡ newline_from bs from →
    IsPlace bs (record { number = n + 1; from = end + 1 })
next_place bs n from end few inside past below is = record {
  few = omega arith;
  inside = omega arith;
  begins = λ h. ap (λ (e : ℕ). begins_line bs (e + 1)) is ∙ begins_next bs from inside (omega (arith, h, is));
}

-- ---- a line of a text without a fault ends where its plain bytes end

pub sound_cut : (bs : List ℕ) (n from upto end : ℕ) → from < length bs → begins_line bs from ≡ true → upto ≡ odd_end bs from → end ≡ behind_return bs upto →
    is_ok (lines_in bs (pieces_from bs n from)) ≡ true → Cut bs n from end upto
sound_cut bs n from upto end inside begins odd behind ok =
    let ends : Ends bs from upto end = record { inside = omega arith; odd = odd; behind = behind } in
    let whole : Cut bs n from (newline_from bs from) (without_return bs from (newline_from bs from)) =
    record { inside = inside; begins = begins; to_newline = refl; less_return = refl } in
    let closed = sound_closed bs n from upto end ends (sound_here bs n from (newline_from bs from) (without_return bs from (newline_from bs from)) whole ok) in
    record {
      inside = inside;
      begins = begins;
      to_newline = sym (closed_newline bs from upto end ends closed);
      less_return = sym (closed_return bs from upto end ends);
    }

pub kept_some : (bs : List ℕ) (number from upto indent : ℕ) (words : List Span) → words ≡ words_between bs from upto → indent ≡ indent_between bs from upto →
    are_kept bs words ≡ true
    → kept_line bs number from upto ≡ Some (record { number = number; indent = indent; words = words })
kept_some bs number from upto indent words e f keep =
    let kept : are_kept bs (words_between bs from upto) ≡ true = ap (are_kept bs) (sym e) ∙ keep in
    rw (e, f, kept) refl

pub kept_none : (bs : List ℕ) (number from upto : ℕ) (words : List Span) → words ≡ words_between bs from upto → are_kept bs words ≡ false →
    kept_line bs number from upto ≡ None
kept_none bs number from upto words e skip =
    let skipped : are_kept bs (words_between bs from upto) ≡ false = ap (are_kept bs) (sym e) ∙ skip in
    rw skipped refl
