-- The words of a line of a text, with one blank between, are no longer than the line.
use Rattle.std.proofs.Common.{◌≡◌, ℕ, zero, suc, ◌+◌, ◌-◌, ◌<◌, ◌≤◌, Bool, true, false, not, List, [], ◌∷◌, length, map, filter, drop, None, Ok, refl, ap, ◌∙◌, arith, inl, inr, length-append}
use Rattle.std.specs.List.{AllByRecursion, slice_range, join_with_byte}
use Rattle.std.proofs.lemmas.Bool.{cases_lt, cases_Bool}
use Rattle.std.proofs.lemmas.Bool.Decides.{nat_tests}
use Rattle.std.proofs.lemmas.List.{length-take}
use Rattle.std.proofs.lemmas.List.Elements.{recursion_from_All}
use Rattle.cfg_ast.specs.declared.line.Span.{Span}
use Rattle.cfg_ast.specs.declared.line.Line.{Line}
use Rattle.cfg_ast.specs.text.TextLines.{TextLine, text_line}
use Rattle.cfg_ast.specs.text.Lines.{Piece, blank_at, first_at, word_end, words_between, line_of, is_kept, kind_at, pieces_from, lines_of, texts}
use Rattle.cfg_ast.specs.text.Reading.{texts_of}
use Rattle.cfg_ast.proofs.Places.{first_below, first_from, first_fails, first_passes}
use Rattle.cfg_ast.proofs.WordRuns.{words_blank, words_word, words_end, word_past}
use Rattle.cfg_ast.proofs.Within.{Lies, pieces_lie, lines_faultless}
use Rattle.given_laws.proofs.Each.{all_both, all_filter}

abbrev pub joined : List (List ℕ) → ℕ
joined words = length (join_with_byte 32 words)

-- a line that is no longer than a text may have it
pub record IsShortText (l : TextLine) : Type 0 where
  pub short : l.indent + joined l.words ≤ 1024

length_word : (bs : List ℕ) (i e : ℕ) → length (slice_range bs i e) ≤ e - i
length_word bs i e = omega (arith, length-take (e - i) (drop i bs))

-- one word, and others behind a blank
joined_more : (word : List ℕ) (words : List (List ℕ)) → joined (word ∷ words) ≤ length word + (1 + joined words)
joined_more word [] = omega arith
joined_more word (next ∷ words) = omega (arith, length-append word (32 ∷ join_with_byte 32 (next ∷ words)))

joined_one : (word : List ℕ) (words : List (List ℕ)) → words ≡ [] → joined (word ∷ words) ≤ length word
joined_one word words none = rw none (omega arith)

words_fit : (n : ℕ) (bs : List ℕ) (i upto : ℕ) → upto - i ≤ n → joined (texts bs (words_between bs i upto)) ≤ upto - i
words_fit zero bs i upto few = rw (words_end bs i upto (omega arith)) (omega arith)
words_fit (suc n) bs i upto few = elim (cases_lt i upto) [
  | inr end ↦ (rw (words_end bs i upto end) (omega arith))
  | inl inside ↦ (elim (cases_Bool (blank_at bs i)) [
    | inl blank ↦ (let rest = words_fit n bs (i + 1) upto (omega arith) in rw (words_blank bs i upto inside blank) (omega (arith, rest)))
    | inr full ↦ (
        let e = word_end bs i upto in
        let past : i < e = word_past bs i upto inside full in
        let below : e ≤ upto = first_below (blank_at bs) i upto (omega arith) in
        let word = slice_range bs i e in
        let rest = words_between bs e upto in
        let size = length_word bs i e in
        rw (words_word bs i upto inside full) (elim (cases_lt e upto) [
          | inr end ↦ (
              let none : texts bs rest ≡ [] = ap (texts bs) (words_end bs e upto end) in
              omega (arith, joined_one word (texts bs rest) none, size))
          | inl more ↦ (
              let blank : blank_at bs e ≡ true = first_passes (blank_at bs) i upto (omega arith) more in
              let fits = words_fit n bs (e + 1) upto (omega arith) in
              let same : joined (texts bs rest) ≡ joined (texts bs (words_between bs (e + 1) upto)) =
              ap (λ (ws : List Span). joined (texts bs ws)) (words_blank bs e upto more blank) in
              omega (arith, joined_more word (texts bs rest), size, fits, same))
        ])
        )
  ])
]

-- blanks in front bear on no word
skip_blanks : (n : ℕ) (bs : List ℕ) (from first upto : ℕ) → first ≡ from + n → first ≤ upto → ((k : ℕ) → from ≤ k → k < first → blank_at bs k ≡ true) →
    words_between bs from upto ≡ words_between bs first upto
skip_blanks zero bs from first upto e le blank = ap (λ (i : ℕ). words_between bs i upto) (let same : from ≡ first = omega arith in same)
skip_blanks (suc n) bs from first upto e le blank =
    words_blank bs from upto (omega arith) (blank from (omega arith) (omega arith))
    ∙ skip_blanks n bs (from + 1) first upto (omega arith) le (λ k low high. blank k (omega arith) high)

not_false : (b : Bool) → not b ≡ false → b ≡ true
not_false true e = refl
not_false false e = absurd cc

line_fits : (bs : List ℕ) (p : Piece) → p.from ≤ p.upto → p.upto - p.from ≤ 1024 → IsShortText (text_line bs (line_of bs p))
line_fits bs p le short =
    let test = λ (i : ℕ). not (blank_at bs i) in
    let first = first_at test p.from p.upto in
    let low : p.from ≤ first = first_from test p.from p.upto in
    let high : first ≤ p.upto = first_below test p.from p.upto le in
    let same = skip_blanks (first - p.from) bs p.from first p.upto (omega arith) high
    (λ k from below. not_false (blank_at bs k) (first_fails test p.from p.upto k le from below)) in
    let fits = words_fit (p.upto - first) bs first p.upto (omega arith) in
    record { short = omega (arith, fits, ap (λ (ws : List Span). joined (texts bs ws)) same) }

piece_short : (bs : List ℕ) (p : Piece) → kind_at bs p ≡ None → p.upto - p.from ≤ 1024
piece_short bs p none = grind (arith, nat_tests)

pieces_short : (bs : List ℕ) (ps : List Piece) → AllByRecursion (λ (p : Piece). IsShortText (text_line bs (line_of bs p))) ps →
    AllByRecursion IsShortText (texts_of bs (map (line_of bs) ps))
pieces_short bs [] all = tt
pieces_short bs (p ∷ ps) all = (all.0, pieces_short bs ps all.1)

pub lines_short : (bs : List ℕ) (ls : List Line) → lines_of bs ≡ Ok ls → AllByRecursion IsShortText (texts_of bs ls)
lines_short bs ls e =
    let ps = pieces_from bs 1 0 in
    let free = lines_faultless bs ps ls e in
    let lie : AllByRecursion (Lies bs) ps = recursion_from_All (Lies bs) ps (pieces_lie bs 1 0) in
    let none : AllByRecursion (λ p. kind_at bs p ≡ None) ps = recursion_from_All (λ p. kind_at bs p ≡ None) ps free.each in
    let fit = all_both (Lies bs) (λ p. kind_at bs p ≡ None) (λ (p : Piece). IsShortText (text_line bs (line_of bs p)))
    (λ p lies no. line_fits bs p lies.front (piece_short bs p no)) ps lie none in
    rw free.are (pieces_short bs (filter (is_kept bs) ps) (all_filter (λ (p : Piece). IsShortText (text_line bs (line_of bs p))) (is_kept bs) ps fit))
