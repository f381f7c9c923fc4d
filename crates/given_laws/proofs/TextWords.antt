-- The words of the lines of a text: each of their bytes prints and is no blank.
use Rattle.std.proofs.Common.{◌≡◌, ℕ, ◌+◌, ◌-◌, ◌<◌, ◌≤◌, false, not, List, [], ◌∷◌, map, filter, length, get_or, None, Ok, arith, slice_index}
use Rattle.std.specs.List.{AllByRecursion, range_with_len, slice_range}
use Rattle.std.proofs.lemmas.Bool.Decides.{nat_tests}
use Rattle.std.proofs.lemmas.List.Elements.{recursion_from_All}
use Rattle.cfg_ast.specs.declared.line.Line.{Line}
use Rattle.cfg_ast.specs.text.Lines.{is_plain, is_blank, blank_at, Piece, word_end, word_at, words_between, begins_word, line_of, is_kept, kind_at, odd_from, pieces_from, lines_of, texts}
use Rattle.cfg_ast.specs.text.Reading.{texts_of}
use Rattle.cfg_ast.specs.printing.WellFormed.{IsBetween}
use Rattle.cfg_ast.proofs.Places.{first_below, first_fails, first_from}
use Rattle.cfg_ast.proofs.SameWords.{range_all}
use Rattle.cfg_ast.proofs.Within.{Lies, pieces_lie, lines_faultless}
use Rattle.given_laws.proofs.Each.{all_weaker, all_both, all_range, all_filter}
use Rattle.given_laws.proofs.RouterItems.{IsWord, AreWords}
use Rattle.given_laws.proofs.DraftSteps.{IsLineOfWords}

plain_byte : (b : ℕ) → is_blank b ≡ false → not (is_plain b) ≡ false → IsBetween 33 126 b
plain_byte b full plain = grind (arith, nat_tests)

-- a line whose bytes are plain
record IsPlainLine (bs : List ℕ) (from upto : ℕ) : Type 0 where
  front : from ≤ upto
  inside : upto ≤ length bs
  plain : upto ≤ odd_from bs from upto

-- a place in a line
abbrev IsPlace : ℕ → ℕ → ℕ → Type 0
IsPlace from upto i = (from ≤ i) × (i < upto)

word_case : (bs : List ℕ) (from upto i : ℕ) → IsPlainLine bs from upto → IsPlace from upto i → IsWord (slice_range bs i (word_end bs i upto))
word_case bs from upto i line place =
    let end = word_end bs i upto in
    let below : end ≤ upto = first_below (blank_at bs) i upto (omega (arith, place.1)) in
    recursion_from_All (IsBetween 33 126) (slice_range bs i end)
    (range_all (end - i) (IsBetween 33 126) bs i end (omega (arith, first_from (blank_at bs) i upto)) (omega (arith, line.inside)) (λ k l m.
    plain_byte (get_or bs k 0) (first_fails (blank_at bs) i upto k (omega (arith, place.1)) l m)
    (first_fails (λ j. not (is_plain (slice_index bs j))) from upto k line.front (omega (arith, place.0)) (omega (arith, line.plain)))))

words_case : (bs : List ℕ) (from upto : ℕ) (is : List ℕ) → IsPlainLine bs from upto → AllByRecursion (IsPlace from upto) is →
    AreWords (texts bs (map (word_at bs upto) is))
words_case bs from upto [] line places = tt
words_case bs from upto (i ∷ is) line places = (word_case bs from upto i line places.0, words_case bs from upto is line places.1)

line_words : (bs : List ℕ) (from upto : ℕ) → IsPlainLine bs from upto → AreWords (texts bs (words_between bs from upto))
unfolding words_between
line_words bs from upto line =
    let range = range_with_len from (upto - from) in
    let places : AllByRecursion (IsPlace from upto) range =
    all_weaker (λ (k : ℕ). (from ≤ k) × (k + 1 ≤ from + (upto - from))) (IsPlace from upto)
    (λ k is. (is.0, let high = is.1 in let front = line.front in omega arith)) range (all_range from (upto - from)) in
    words_case bs from upto (filter (begins_word bs from) range) line (all_filter (IsPlace from upto) (begins_word bs from) range places)

-- ---- the lines of a text

no_odd : (bs : List ℕ) (p : Piece) → kind_at bs p ≡ None → p.upto ≤ odd_from bs p.from p.upto
no_odd bs p none = grind (arith, nat_tests)

abbrev IsPlainPiece : List ℕ → Piece → Type 0
IsPlainPiece bs p = IsPlainLine bs p.from p.upto

pieces_words : (bs : List ℕ) (ps : List Piece) → AllByRecursion (IsPlainPiece bs) ps → AllByRecursion IsLineOfWords (texts_of bs (map (line_of bs) ps))
pieces_words bs [] plain = tt
pieces_words bs (p ∷ ps) plain = (line_words bs p.from p.upto plain.0, pieces_words bs ps plain.1)

pub lines_words : (bs : List ℕ) (ls : List Line) → lines_of bs ≡ Ok ls → AllByRecursion IsLineOfWords (texts_of bs ls)
lines_words bs ls e =
    let ps = pieces_from bs 1 0 in
    let free = lines_faultless bs ps ls e in
    let lie : AllByRecursion (Lies bs) ps = recursion_from_All (Lies bs) ps (pieces_lie bs 1 0) in
    let none : AllByRecursion (λ p. kind_at bs p ≡ None) ps = recursion_from_All (λ p. kind_at bs p ≡ None) ps free.each in
    let plain = all_both (Lies bs) (λ p. kind_at bs p ≡ None) (IsPlainPiece bs)
    (λ p lies no. record { front = lies.front; inside = lies.inside; plain = no_odd bs p no }) ps lie none in
    rw free.are (pieces_words bs (filter (is_kept bs) ps) (all_filter (IsPlainPiece bs) (is_kept bs) ps plain))
