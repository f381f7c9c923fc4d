-- What the definition of the lines gives lies in the text.
use Rattle.std.proofs.Common.{◌≡◌, ℕ, ◌+◌, ◌-◌, ◌<◌, ◌≤◌, false, not, List, [], ◌∷◌, map, filter, length, get_or, All, refl, arith, Option, Some, None, Ok, slice_index}
use Rattle.std.specs.List.{range_with_len, enumerate_from}
use Rattle.std.proofs.lemmas.Bool.Decides.{nat_tests}
use Rattle.std.proofs.lemmas.List.Elements.{All-map, All-filter, All-cons, All-head, All-tail, recursion_from_All}
use Rattle.std.proofs.lemmas.List.FromFn.{length-range_with_len, get_or-range_with_len}
use Rattle.std.proofs.lemmas.Str.Ascii.{IsAscii-from_all}
use Rattle.cfg_ast.specs.declared.line.Span.{Span}
use Rattle.cfg_ast.specs.declared.line.Line.{Line}
use Rattle.cfg_ast.specs.declared.refusal.Kind.{Kind}
use Rattle.cfg_ast.specs.declared.refusal.ReadRefusal.{ReadRefusal}
use Rattle.cfg_ast.specs.text.Lines.{Piece, is_plain, blank_at, newline_at, newline_from, piece_at, pieces_from, begins_line, begins_word, word_at, words_between, line_of, is_kept, kind_at, odd_from, line_faults, unless_refused, lines_in, lines_of, text_of, IsWordIn, IsLineIn}
use Rattle.cfg_ast.proofs.Places.{first_from, first_below, first_fails}
use Rattle.cfg_ast.proofs.SameWords.{range_all}

in_range : (a n : ℕ) → All (λ i. (a ≤ i) × (i < a + n)) (range_with_len a n)
in_range a n = λ k d lt.
    let here : get_or (range_with_len a n) k d ≡ a + k = get_or-range_with_len a n k d (omega (arith, length-range_with_len a n)) in
    (omega arith, omega (arith, length-range_with_len a n))

-- the word stands between the two places
abbrev pub IsBetween : ℕ → ℕ → Span → Type 0
IsBetween from upto w = (from ≤ w.from) × (w.from ≤ w.upto) × (w.upto ≤ upto)

pub words_lie : (bs : List ℕ) (from upto : ℕ) → from ≤ upto → All (IsBetween from upto) (words_between bs from upto)
unfolding words_between
words_lie bs from upto le =
    let places = All-filter (begins_word bs from) (λ i. (from ≤ i) × (i < from + (upto - from))) (range_with_len from (upto - from))
    (in_range from (upto - from)) in
    All-map (IsBetween from upto) (word_at bs upto) (filter (begins_word bs from) (range_with_len from (upto - from))) (λ k d lt.
    let i = get_or (filter (begins_word bs from) (range_with_len from (upto - from))) k d in
    let there = places k d lt in
    (there.0, first_from (blank_at bs) i upto, first_below (blank_at bs) i upto (omega (arith, there.1))))

small : (b : ℕ) → not (is_plain b) ≡ false → b < 128
small b plain = grind (arith, nat_tests)

word_in : (bs : List ℕ) (from upto : ℕ) (w : Span) → from ≤ upto → upto ≤ length bs → upto ≤ odd_from bs from upto → IsBetween from upto w → IsWordIn bs w
word_in bs from upto w le short plain lies =
    let each : All (λ b. b < 128) (text_of bs w) =
    range_all (w.upto - w.from) (λ b. b < 128) bs w.from w.upto (omega (arith, lies.1)) (omega (arith, lies.2)) (λ k l m.
    small (get_or bs k 0) (first_fails (λ i. not (is_plain (slice_index bs i))) from upto k le (omega (arith, lies.0)) (omega (arith, lies.2)))) in
    (lies.1, omega (arith, lies.2), IsAscii-from_all (text_of bs w) each)

-- ---- lines

pub record Lies (bs : List ℕ) (p : Piece) : Type 0 where
  pub front : p.from ≤ p.upto
  pub inside : p.upto ≤ length bs

piece_lies : (bs : List ℕ) (n i : ℕ) → i < length bs → Lies bs (piece_at bs (n, i))
piece_lies bs n i lt =
    let end = newline_from bs i in
    let past = first_from (newline_at bs) i (length bs) in
    let below = first_below (newline_at bs) i (length bs) (omega arith) in
    record { front = grind (arith, nat_tests); inside = grind (arith, nat_tests) }

numbered_lie : (bs places : List ℕ) (n : ℕ) → All (λ i. i < length bs) places → All (Lies bs) (map (piece_at bs) (enumerate_from n places))
numbered_lie bs [] n all = λ k d lt. absurd (omega arith)
numbered_lie bs (i ∷ places) n all =
    All-cons (Lies bs) (piece_at bs (n, i)) (map (piece_at bs) (enumerate_from (n + 1) places)) (piece_lies bs n i (All-head (λ j. j < length bs) i places all))
    (numbered_lie bs places (n + 1) (All-tail (λ j. j < length bs) i places all))

pub pieces_lie : (bs : List ℕ) (n i : ℕ) → All (Lies bs) (pieces_from bs n i)
unfolding pieces_from
pieces_lie bs n i =
    numbered_lie bs (filter (begins_line bs) (range_with_len i (length bs - i))) n
    (All-filter (begins_line bs) (λ j. j < length bs) (range_with_len i (length bs - i)) (λ k d lt. let there = in_range i (length bs - i) k d lt in
    omega (arith, there.0, there.1, lt, length-range_with_len i (length bs - i))))

-- ---- a text without a fault

no_fault : (bs : List ℕ) (p : Piece) → kind_at bs p ≡ None → p.upto ≤ odd_from bs p.from p.upto
no_fault bs p none = grind (arith, nat_tests)

pub few : (bs : List ℕ) (p : Piece) → kind_at bs p ≡ None → p.number ≤ 1000000
few bs p none = grind (arith, nat_tests)

pub line_lies : (bs : List ℕ) (p : Piece) → Lies bs p → kind_at bs p ≡ None → IsLineIn bs (line_of bs p)
line_lies bs p lies none =
    recursion_from_All (IsWordIn bs) (words_between bs p.from p.upto)
    (λ k d lt. word_in bs p.from p.upto (get_or (words_between bs p.from p.upto) k d) lies.front lies.inside (no_fault bs p none)
    (words_lie bs p.from p.upto lies.front k d lt))

-- each line is free of faults, and the lines are those that are kept
pub record Faultless (bs : List ℕ) (ps : List Piece) (ls : List Line) : Type 0 where
  pub each : All (λ p. kind_at bs p ≡ None) ps
  pub are : ls ≡ map (line_of bs) (filter (is_kept bs) ps)

free_step : (bs : List ℕ) (p : Piece) (ps : List Piece) (o : Option Kind) → kind_at bs p ≡ o → line_faults bs (p ∷ ps) ≡ [] → (kind_at bs p ≡ None)
    × (line_faults bs ps ≡ [])
free_step bs p ps None e none = (e, rw e at none)
free_step bs p ps (Some k) e none = let one = rw e at none in absurd cc

all_free : (bs : List ℕ) (ps : List Piece) → line_faults bs ps ≡ [] → All (λ p. kind_at bs p ≡ None) ps
all_free bs [] none = λ k d lt. absurd (omega arith)
all_free bs (p ∷ ps) none =
    let first = free_step bs p ps (kind_at bs p) refl none in
    All-cons (λ q. kind_at bs q ≡ None) p ps first.0 (all_free bs ps first.1)

same_lines : (found ls : List Line) → unless_refused [] found ≡ Ok ls → ls ≡ found
same_lines found ls e = cc

faultless : (bs : List ℕ) (ps : List Piece) (ls : List Line) (fs : List ReadRefusal) → line_faults bs ps ≡ fs →
    unless_refused fs (map (line_of bs) (filter (is_kept bs) ps)) ≡ Ok ls → Faultless bs ps ls
faultless bs ps ls [] none e = record { each = all_free bs ps none; are = same_lines (map (line_of bs) (filter (is_kept bs) ps)) ls e }
faultless bs ps ls (f ∷ fs) none e = absurd cc

pub lines_faultless : (bs : List ℕ) (ps : List Piece) (ls : List Line) → lines_in bs ps ≡ Ok ls → Faultless bs ps ls
unfolding lines_in
lines_faultless bs ps ls e = faultless bs ps ls (line_faults bs ps) refl e

-- the lines lie in the text
pub lines_lie : (bs : List ℕ) (ls : List Line) → lines_of bs ≡ Ok ls → All (IsLineIn bs) ls
lines_lie bs ls e =
    let free = lines_faultless bs (pieces_from bs 1 0) ls e in
    rw free.are (All-map (IsLineIn bs) (line_of bs) (filter (is_kept bs) (pieces_from bs 1 0))
    (All-filter (is_kept bs) (λ p. IsLineIn bs (line_of bs p)) (pieces_from bs 1 0)
    (λ k d lt. line_lies bs (get_or (pieces_from bs 1 0) k d) (pieces_lie bs 1 0 k d lt) (free.each k d lt))))
