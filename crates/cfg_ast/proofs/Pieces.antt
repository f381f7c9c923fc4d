-- The lines of a text, taken from the front.
use Rattle.std.proofs.Common.{◌≡◌, ℕ, ◌+◌, ◌-◌, ◌<◌, ◌≤◌, Bool, true, false, cond, List, [], ◌∷◌, ◌++◌, map, length, refl, sym, ap, ◌∙◌, arith, inl, inr, Some, None, Result, Ok, Err, append_assoc}
use Rattle.std.specs.List.{range_with_len, enumerate_from, filter}
use Rattle.std.proofs.lemmas.List.Elements.{filter-append}
use Rattle.std.proofs.lemmas.Bool.{ne_eqb, cases_lt}
use Rattle.std.proofs.lemmas.List.{append-nil}
use Rattle.cfg_ast.specs.declared.line.Span.{Span}
use Rattle.cfg_ast.specs.declared.line.Line.{Line}
use Rattle.cfg_ast.specs.declared.refusal.Kind.{Kind}
use Rattle.cfg_ast.specs.declared.refusal.ReadRefusal.{ReadRefusal}
use Rattle.cfg_ast.specs.declared.refusal.ReadRefusal.TheVariants.{At}
use Rattle.cfg_ast.specs.text.Lines.{newline_at, begins_line, newline_from, Piece, piece_at, pieces_from, line_of, is_kept, are_kept, kind_at, line_faults, lines_in, words_between, indent_between, without_return, unless_refused}
use Rattle.cfg_ast.proofs.Places.{range_step, range_end, first_from, first_below, first_fails, first_passes}
use Rattle.cfg_ast.proofs.WordRuns.{filter_none, range_split}

-- no line begins behind this one's front, up to its newline
inside_line : (bs : List ℕ) (i k : ℕ) → i < length bs → i < k → k ≤ newline_from bs i → begins_line bs k ≡ false
inside_line bs i k lt gt le =
    rw (ne_eqb k 0 (omega arith), first_fails (newline_at bs) i (length bs) (k - 1) (omega arith) (omega arith) (omega arith)) refl

-- where the lines after this one begin
others : (bs : List ℕ) (i : ℕ) → i < length bs →
    filter (begins_line bs) (range_with_len (i + 1) (length bs - (i + 1))) ≡ filter (begins_line bs)
    (range_with_len (newline_from bs i + 1) (length bs - (newline_from bs i + 1)))
others bs i lt =
    let end = newline_from bs i in
    let past : i ≤ end = first_from (newline_at bs) i (length bs) in
    let below : end ≤ length bs = first_below (newline_at bs) i (length bs) (omega arith) in
    let p = begins_line bs in
    elim (cases_lt end (length bs)) [
      | inl short ↦
          let n : length bs - (i + 1) ≡ (end - i) + (length bs - (end + 1)) = omega arith in
          let m : (i + 1) + (end - i) ≡ end + 1 = omega arith in
          let none : filter p (range_with_len (i + 1) (end - i)) ≡ [] =
          filter_none p (i + 1) (end - i) (λ k l h. inside_line bs i k lt (omega arith) (omega arith)) in
          ap (λ (k : ℕ). filter p (range_with_len (i + 1) k)) n ∙ ap (filter p) (range_split (i + 1) (end - i) (length bs - (end + 1)))
          ∙ filter-append p (range_with_len (i + 1) (end - i)) (range_with_len ((i + 1) + (end - i)) (length bs - (end + 1)))
          ∙ ap (λ (xs : List ℕ). xs ++ filter p (range_with_len ((i + 1) + (end - i)) (length bs - (end + 1)))) none
          ∙ ap (λ (k : ℕ). filter p (range_with_len k (length bs - (end + 1)))) m
      | inr all ↦
          filter_none p (i + 1) (length bs - (i + 1)) (λ k l h. inside_line bs i k lt (omega arith) (omega arith))
          ∙ sym (ap (filter p) (range_end (end + 1) (length bs) (omega arith)))
    ]

pub pieces_next : (bs : List ℕ) (n i : ℕ) → i < length bs → begins_line bs i ≡ true →
    pieces_from bs n i ≡ piece_at bs (n, i) ∷ pieces_from bs (n + 1) (newline_from bs i + 1)
unfolding pieces_from
pieces_next bs n i lt begins =
    let p = begins_line bs in
    let first : filter p (range_with_len i (length bs - i)) ≡ i ∷ filter p (range_with_len (newline_from bs i + 1) (length bs - (newline_from bs i + 1))) =
    ap (filter p) (range_step i (length bs) lt) ∙ rw begins (ap (λ (xs : List ℕ). i ∷ xs) (others bs i lt)) in
    ap (λ (xs : List ℕ). map (piece_at bs) (enumerate_from n xs)) first

pub pieces_end : (bs : List ℕ) (n i : ℕ) → length bs ≤ i → pieces_from bs n i ≡ []
unfolding pieces_from
pieces_end bs n i le = rw (range_end i (length bs) le) refl

pub begins_next : (bs : List ℕ) (i : ℕ) → i < length bs → newline_from bs i + 1 < length bs → begins_line bs (newline_from bs i + 1) ≡ true
begins_next bs i lt short =
    let here : newline_at bs (newline_from bs i + 1 - 1) ≡ true = ap (newline_at bs) (let e : newline_from bs i + 1 - 1 ≡ newline_from bs i = omega arith in e)
    ∙ first_passes (newline_at bs) i (length bs) (omega arith) (omega arith) in
    rw (ne_eqb (newline_from bs i + 1) 0 (omega arith), here) refl

-- ---- what is read of them

abbrev pub with_front : {X : Type 0} → List X → Result (List X) ReadRefusal → Result (List X) ReadRefusal
with_front front (Ok xs) = Ok (front ++ xs)
with_front front (Err e) = Err e

pub with_front-push : {X : Type 0} (front : List X) (x : X) (r : Result (List X) ReadRefusal) →
    with_front (front ++ x ∷ []) r ≡ with_front front (with_front (x ∷ []) r)
with_front-push front x (Ok xs) = ap (λ v. Ok v) (append_assoc front (x ∷ []) xs)
with_front-push front x (Err e) = refl

pub lines_fault : (bs : List ℕ) (p : Piece) (ps : List Piece) (k : Kind) → kind_at bs p ≡ Some k → lines_in bs (p ∷ ps) ≡ Err (At p.number k)
unfolding lines_in
lines_fault bs p ps k e = rw e refl

unless_front : {X : Type 0} (fs : List ReadRefusal) (x : X) (xs : List X) → unless_refused fs (x ∷ xs) ≡ with_front (x ∷ []) (unless_refused fs xs)
unless_front [] x xs = refl
unless_front (f ∷ fs) x xs = refl

pub lines_kept : (bs : List ℕ) (p : Piece) (ps : List Piece) → kind_at bs p ≡ None → is_kept bs p ≡ true →
    lines_in bs (p ∷ ps) ≡ with_front (line_of bs p ∷ []) (lines_in bs ps)
unfolding lines_in
lines_kept bs p ps e k = rw (e, k) (unless_front (line_faults bs ps) (line_of bs p) (map (line_of bs) (filter (is_kept bs) ps)))

pub lines_skipped : (bs : List ℕ) (p : Piece) (ps : List Piece) → kind_at bs p ≡ None → is_kept bs p ≡ false → lines_in bs (p ∷ ps) ≡ lines_in bs ps
unfolding lines_in
lines_skipped bs p ps e k = rw (e, k) refl

pub lines_none : (bs : List ℕ) → lines_in bs [] ≡ Ok []
unfolding lines_in
lines_none bs = refl

-- ---- one turn of the loop

-- A line that was cut off the front: where it ends, what it has, and that it is no fault.
pub record Cut (bs : List ℕ) (n from end upto : ℕ) (ws : List Span) : Type 0 where
  pub inside : from < length bs
  pub begins : begins_line bs from ≡ true
  pub to_newline : end ≡ newline_from bs from
  pub less_return : upto ≡ without_return bs from end
  pub has_words : ws ≡ words_between bs from upto
  pub no_fault : kind_at bs (record { number = n; from = from; upto = upto }) ≡ None

abbrev mk : ℕ → ℕ → ℕ → Piece
mk n from upto = record { number = n; from = from; upto = upto }

is_piece : (bs : List ℕ) (n from end upto : ℕ) → end ≡ newline_from bs from → upto ≡ without_return bs from end → mk n from upto ≡ piece_at bs (n, from)
is_piece bs n from end upto e f = ap (mk n from) (f ∙ ap (without_return bs from) e)

cut_front : (bs : List ℕ) (n from end upto : ℕ) (ws : List Span) → Cut bs n from end upto ws →
    lines_in bs (pieces_from bs n from) ≡ lines_in bs (mk n from upto ∷ pieces_from bs (n + 1) (end + 1))
cut_front bs n from end upto ws cut =
    ap (lines_in bs) (pieces_next bs n from cut.inside cut.begins
    ∙ ap (λ (p : Piece). p ∷ pieces_from bs (n + 1) (newline_from bs from + 1)) (sym (is_piece bs n from end upto cut.to_newline cut.less_return))
    ∙ ap (λ (e : ℕ). mk n from upto ∷ pieces_from bs (n + 1) (e + 1)) (sym cut.to_newline))

pub line_taken : (bs : List ℕ) (n from end upto dent : ℕ) (ws : List Span) (found found' : List Line) (all : Result (List Line) ReadRefusal) →
    Cut bs n from end upto ws → are_kept bs ws ≡ true → dent ≡ indent_between bs from upto →
    found' ≡ found ++ record { number = n; indent = dent; words = ws } ∷ [] → with_front found (lines_in bs (pieces_from bs n from)) ≡ all →
    with_front found' (lines_in bs (pieces_from bs (n + 1) (end + 1))) ≡ all
line_taken bs n from end upto dent ws found found' all cut keep dented grown given =
    let rest = lines_in bs (pieces_from bs (n + 1) (end + 1)) in
    let is_line : line_of bs (mk n from upto) ≡ record { number = n; indent = dent; words = ws } = rw (cut.has_words, dented) refl in
    let kept_here : is_kept bs (mk n from upto) ≡ true = ap (are_kept bs) (sym cut.has_words) ∙ keep in
    ap (λ (f : List Line). with_front f rest) grown ∙ with_front-push found (record { number = n; indent = dent; words = ws }) rest
    ∙ ap (λ (x : Line). with_front found (with_front (x ∷ []) rest)) (sym is_line)
    ∙ ap (with_front found) (sym (cut_front bs n from end upto ws cut
    ∙ lines_kept bs (mk n from upto) (pieces_from bs (n + 1) (end + 1)) cut.no_fault kept_here)) ∙ given

pub line_passed : (bs : List ℕ) (n from end upto : ℕ) (ws : List Span) (found : List Line) (all : Result (List Line) ReadRefusal) → Cut bs n from end upto ws →
    are_kept bs ws ≡ false → with_front found (lines_in bs (pieces_from bs n from)) ≡ all →
    with_front found (lines_in bs (pieces_from bs (n + 1) (end + 1))) ≡ all
line_passed bs n from end upto ws found all cut skip given =
    let skipped : is_kept bs (mk n from upto) ≡ false = ap (are_kept bs) (sym cut.has_words) ∙ skip in
    ap (with_front found) (sym (cut_front bs n from end upto ws cut
    ∙ lines_skipped bs (mk n from upto) (pieces_from bs (n + 1) (end + 1)) cut.no_fault skipped)) ∙ given

-- a line is put to those before it, unless it is skipped
pub line_read : (bs : List ℕ) (n from end upto dent : ℕ) (ws : List Span) (found found' : List Line) (all : Result (List Line) ReadRefusal) →
    Cut bs n from end upto ws → dent ≡ indent_between bs from upto
    → found' ≡ cond (are_kept bs ws) (found ++ record { number = n; indent = dent; words = ws } ∷ []) found
    → with_front found (lines_in bs (pieces_from bs n from)) ≡ all → with_front found' (lines_in bs (pieces_from bs (n + 1) (end + 1))) ≡ all
line_read bs n from end upto dent ws found found' all cut dented grown given = by (are_kept bs ws) refl
  where
    longer : List Line
    longer = found ++ record { number = n; indent = dent; words = ws } ∷ []

    by : (b : Bool) → are_kept bs ws ≡ b → with_front found' (lines_in bs (pieces_from bs (n + 1) (end + 1))) ≡ all
    by true keep = line_taken bs n from end upto dent ws found found' all cut keep dented (grown ∙ ap (λ b. cond b longer found) keep) given
    by false skip = rw (grown ∙ ap (λ b. cond b longer found) skip) (line_passed bs n from end upto ws found all cut skip given)

pub line_faulty : (bs : List ℕ) (n from end upto : ℕ) (k : Kind) (found : List Line) (all : Result (List Line) ReadRefusal) → from < length bs →
    begins_line bs from ≡ true → end ≡ newline_from bs from → upto ≡ without_return bs from end →
    kind_at bs (record { number = n; from = from; upto = upto }) ≡ Some k → with_front found (lines_in bs (pieces_from bs n from)) ≡ all → all ≡ Err (At n k)
line_faulty bs n from end upto k found all inside begins e f fault given =
    let faulty : kind_at bs (piece_at bs (n, from)) ≡ Some k = ap (kind_at bs) (sym (is_piece bs n from end upto e f)) ∙ fault in
    sym given ∙ ap (with_front found) (ap (lines_in bs) (pieces_next bs n from inside begins)
    ∙ lines_fault bs (piece_at bs (n, from)) (pieces_from bs (n + 1) (newline_from bs from + 1)) k faulty)

pub lines_done : (bs : List ℕ) (n from : ℕ) (found : List Line) (all : Result (List Line) ReadRefusal) → length bs ≤ from →
    with_front found (lines_in bs (pieces_from bs n from)) ≡ all → all ≡ Ok found
lines_done bs n from found all le given = sym given ∙ ap (λ (ps : List Piece). with_front found (lines_in bs ps)) (pieces_end bs n from le)
    ∙ ap (with_front found) (lines_none bs) ∙ ap (λ v. Ok v) (append-nil found)
