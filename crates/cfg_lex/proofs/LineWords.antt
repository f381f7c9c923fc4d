-- The words of a line, taken from the front. Public: crates above cite these lemmas.
use Rattle.std.proofs.Common.{◌≡◌, ℕ, suc, ◌+◌, ◌-◌, ◌<◌, ◌≤◌, Bool, true, false, not, List, [], ◌∷◌, length, take, drop, filter, get_or, All, refl, sym, ap}
use Rattle.std.proofs.Common.{◌∙◌, arith, drop-cons, add-one, inl, inr, length-drop}
use Rattle.std.specs.List.{position_or_len, slice_split}
use Rattle.std.proofs.lemmas.Bool.{cases_lt}
use Rattle.std.proofs.lemmas.List.{take_all, drop_all}
use Rattle.std.proofs.lemmas.List.Sums.{fails_before_first, passes_at_first, prefix_len-le-length}
use Rattle.std.proofs.lemmas.List.Splits.{slice_split_none, slice_split_first, slice_split-cons_yes}
use Rattle.cfg_ast.specs.text.Lines.{is_blank, is_some_word, words_of}

abbrev is_full : ℕ → Bool
is_full b = not (is_blank b)

abbrev blanks : List ℕ → ℕ
blanks line = position_or_len is_full line

pub no_words : words_of [] ≡ []
unfolding words_of
no_words = refl

blank_passed : (b : ℕ) (line : List ℕ) → is_blank b ≡ true → words_of (b ∷ line) ≡ words_of line
unfolding words_of
blank_passed b line blank = ap (filter is_some_word) (slice_split-cons_yes is_blank b line blank)

blank_by : (b : ℕ) (line : List ℕ) (v : Bool) → is_blank b ≡ v → words_of line ≡ words_of (drop (blanks line) line)
    → words_of (b ∷ line) ≡ words_of (drop (blanks (b ∷ line)) (b ∷ line))
blank_by b line true e rest =
    let next : 1 + blanks line ≡ suc (blanks line) = omega arith in
    rw e (blank_passed b line e ∙ rest ∙ sym (ap (λ (k : ℕ). words_of (drop k (b ∷ line))) next))
blank_by b line false e rest = rw e refl

-- leading blanks are no words
pub blanks_passed : (line : List ℕ) → words_of line ≡ words_of (drop (blanks line) line)
blanks_passed [] = refl
blanks_passed (b ∷ line) = blank_by b line (is_blank b) refl (blanks_passed line)

pub only_blanks : (line : List ℕ) → blanks line ≡ length line → words_of line ≡ []
only_blanks line e = blanks_passed line ∙ ap (λ (n : ℕ). words_of (drop n line)) e ∙ ap words_of (drop_all (length line) line (omega arith)) ∙ no_words

some_word : (word : List ℕ) → 0 < length word → is_some_word word ≡ true
some_word [] some = absurd (omega arith)
some_word (b ∷ word) some = refl

kept : (word : List ℕ) (words : List (List ℕ)) → 0 < length word → filter is_some_word (word ∷ words) ≡ word ∷ filter is_some_word words
kept word words some = rw (some_word word some) refl

first_long : (line : List ℕ) → 0 < position_or_len is_blank line → 0 < length (take (position_or_len is_blank line) line)
first_long [] some = some
first_long (b ∷ line) some = by (is_blank b) refl
  where
    by : (v : Bool) → is_blank b ≡ v → 0 < length (take (position_or_len is_blank (b ∷ line)) (b ∷ line))
    by true e = absurd (let none : position_or_len is_blank (b ∷ line) ≡ 0 = rw e refl in omega arith)
    by false e = rw e (let next : 1 + position_or_len is_blank line ≡ suc (position_or_len is_blank line) = omega arith in rw next (omega arith))

words_cut : (line : List ℕ) → 0 < position_or_len is_blank line → position_or_len is_blank line < length line
    → words_of line ≡ take (position_or_len is_blank line) line ∷ words_of (drop (position_or_len is_blank line + 1) line)
unfolding words_of
words_cut line some inside =
    ap (filter is_some_word) (slice_split_first is_blank line 0 inside)
    ∙ kept (take (position_or_len is_blank line) line) (slice_split is_blank (drop (position_or_len is_blank line + 1) line)) (first_long line some)

words_whole : (line : List ℕ) → 0 < length line → All (λ b. is_blank b ≡ false) line → words_of line ≡ line ∷ []
unfolding words_of
words_whole line some full = ap (filter is_some_word) (slice_split_none is_blank line full) ∙ kept line [] some

-- a word runs up to the first blank
pub word_first : (line : List ℕ) (upto : ℕ) → upto ≡ position_or_len is_blank line → 0 < upto → words_of line ≡ take upto line ∷ words_of (drop upto line)
word_first line upto is some = elim (cases_lt (position_or_len is_blank line) (length line)) [
  | inl inside ↦
      let n = position_or_len is_blank line in
      let behind : drop n line ≡ get_or line n 0 ∷ drop (n + 1) line =
      drop-cons line n 0 inside ∙ ap (λ (k : ℕ). get_or line n 0 ∷ drop k line) (sym (add-one n)) in
      let rest : words_of (drop n line) ≡ words_of (drop (n + 1) line) =
      ap words_of behind ∙ blank_passed (get_or line n 0) (drop (n + 1) line) (passes_at_first is_blank line 0 inside) in
      rw is (words_cut line (omega arith) inside ∙ ap (λ (ws : List (List ℕ)). take n line ∷ ws) (sym rest))
  | inr all ↦
      let n : upto ≡ length line = omega (arith, prefix_len-le-length (λ x. not (is_blank x)) line) in
      let full : All (λ b. is_blank b ≡ false) line = λ k d lt. fails_before_first is_blank line k d (omega arith) in
      let whole : take (length line) line ∷ words_of (drop (length line) line) ≡ line ∷ [] =
      ap (λ (xs : List ℕ). xs ∷ words_of (drop (length line) line)) (take_all (length line) line (omega arith))
      ∙ ap (λ (xs : List ℕ). line ∷ words_of xs) (drop_all (length line) line (omega arith))
      ∙ ap (λ (ws : List (List ℕ)). line ∷ ws) no_words in
      rw n (words_whole line (omega arith) full ∙ sym whole)
]

-- ---- a line cut by slices

abbrev rest : List ℕ → ℕ → List ℕ
rest line from = take (length line - from) (drop from line)

rest_is : (line : List ℕ) (from : ℕ) → from ≤ length line → rest line from ≡ drop from line
rest_is line from le = take_all (length line - from) (drop from line) (omega (arith, length-drop from line))

full_by : (v : Bool) → not v ≡ true → v ≡ false
full_by true e = cc
full_by false e = refl

full_first : (b : ℕ) (line : List ℕ) → is_blank b ≡ false → 0 < position_or_len is_blank (b ∷ line)
full_first b line e = rw e (omega arith)

pub words_at : (line : List ℕ) (from upto : ℕ) → from ≡ blanks line → from < length line → upto ≡ position_or_len is_blank (rest line from)
    → upto ≤ length (rest line from)
    → words_of line ≡ take upto (rest line from) ∷ words_of (rest (rest line from) upto)
words_at line from upto is inside upto_is below =
    let tail = rest line from in
    let whole : tail ≡ drop from line = rest_is line from (omega arith) in
    let full : is_blank (get_or line from 0) ≡ false =
    full_by (is_blank (get_or line from 0)) (ap (λ (k : ℕ). is_full (get_or line k 0)) is ∙ passes_at_first is_full line 0 (omega (arith, is))) in
    let first : tail ≡ get_or line from 0 ∷ drop (suc from) line = whole ∙ drop-cons line from 0 inside in
    let some : 0 < upto = rw (upto_is, first) (full_first (get_or line from 0) (drop (suc from) line) full) in
    blanks_passed line ∙ ap (λ (k : ℕ). words_of (drop k line)) (sym is) ∙ ap words_of (sym whole) ∙ word_first tail upto upto_is some
    ∙ ap (λ (xs : List ℕ). take upto tail ∷ words_of xs) (sym (rest_is tail upto below))

pub shorter : (line : List ℕ) (from upto : ℕ) → from ≡ blanks line → from < length line → upto ≡ position_or_len is_blank (rest line from)
    → upto ≤ length (rest line from) → length (rest (rest line from) upto) < length line
shorter line from upto is inside upto_is below =
    let tail = rest line from in
    let whole : tail ≡ drop from line = rest_is line from (omega arith) in
    let full : is_blank (get_or line from 0) ≡ false =
    full_by (is_blank (get_or line from 0)) (ap (λ (k : ℕ). is_full (get_or line k 0)) is ∙ passes_at_first is_full line 0 (omega (arith, is))) in
    let first : tail ≡ get_or line from 0 ∷ drop (suc from) line = whole ∙ drop-cons line from 0 inside in
    let some : 0 < upto = rw (upto_is, first) (full_first (get_or line from 0) (drop (suc from) line) full) in
    omega (arith, ap length (rest_is tail upto below), length-drop upto tail, ap length whole, length-drop from line)
