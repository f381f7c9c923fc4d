-- The words by their places are the parts between blanks.
use Rattle.std.proofs.Common.{◌≡◌, ℕ, zero, suc, ◌+◌, ◌-◌, ◌<◌, ◌≤◌, true, false, List, [], ◌∷◌, ◌++◌, filter, length, get_or, take, drop, All, refl, sym, ap, ◌∙◌, arith, inl, inr}
use Rattle.std.specs.List.{slice_range, slice_split}
use Rattle.std.proofs.lemmas.List.Elements.{All-cons}
use Rattle.std.proofs.lemmas.List.{append-nil, drop_more}
use Rattle.std.proofs.lemmas.List.Splits.{slice_split_at, slice_split_none}
use Rattle.std.proofs.lemmas.Bool.{cases_lt, cases_Bool}
use Rattle.cfg_ast.specs.text.Lines.{is_blank, blank_at, word_end, words_between}
use Rattle.cfg_ast.specs.text.Lines.{texts, is_some_word, words_of}
use Rattle.cfg_ast.proofs.Places.{first_below, first_fails, first_passes}
use Rattle.cfg_ast.proofs.WordRuns.{words_blank, words_word, words_end, word_past}

-- a range, its first byte and the rest
range_more : (bs : List ℕ) (i upto : ℕ) → i < upto → upto ≤ length bs → slice_range bs i upto ≡ get_or bs i 0 ∷ slice_range bs (i + 1) upto
range_more bs i upto lt le =
    let n : upto - i ≡ suc (upto - (i + 1)) = omega arith in
    rw (drop_more bs i 0 (omega arith), n) refl

range_none : (bs : List ℕ) (i : ℕ) → slice_range bs i i ≡ []
range_none bs i = let e : i - i ≡ 0 = omega arith in rw e refl

-- a range cut in two, at n places on
cut : (n : ℕ) (bs : List ℕ) (i e upto : ℕ) → e ≡ i + n → e ≤ upto → upto ≤ length bs → slice_range bs i upto ≡ slice_range bs i e ++ slice_range bs e upto
cut zero bs i e upto h le in_text = let s : e ≡ i = omega arith in rw (s, range_none bs i) refl
cut (suc n) bs i e upto h le in_text =
    rw (range_more bs i upto (omega arith) in_text, range_more bs i e (omega arith) (omega arith))
    (ap (λ (xs : List ℕ). get_or bs i 0 ∷ xs) (cut n bs (i + 1) e upto (omega arith) le in_text))

-- a test that each byte of a range passes
pub range_all : (n : ℕ) (P : ℕ → Type 0) (bs : List ℕ) (i e : ℕ) → e ≡ i + n → e ≤ length bs → ((k : ℕ) → i ≤ k → k < e → P (get_or bs k 0)) →
    All P (slice_range bs i e)
range_all zero P bs i e h le each = let s : e ≡ i = omega arith in rw (s, range_none bs i) (λ k d lt. absurd (omega arith))
range_all (suc n) P bs i e h le each =
    rw (range_more bs i e (omega arith) le) (All-cons P (get_or bs i 0) (slice_range bs (i + 1) e) (each i (omega arith) (omega arith))
    (range_all n P bs (i + 1) e (omega arith) le (λ k l m. each k (omega arith) m)))

abbrev of_range : List ℕ → ℕ → ℕ → List (List ℕ)
of_range bs i upto = words_of (slice_range bs i upto)

of_blank : (bs : List ℕ) (i upto : ℕ) → i < upto → upto ≤ length bs → blank_at bs i ≡ true → of_range bs i upto ≡ of_range bs (i + 1) upto
unfolding words_of
of_blank bs i upto lt le blank = ap (λ (xs : List ℕ). filter is_some_word (slice_split is_blank xs)) (range_more bs i upto lt le) ∙ rw blank refl

some_range : (bs : List ℕ) (i e : ℕ) → i < e → e ≤ length bs → is_some_word (slice_range bs i e) ≡ true
some_range bs i e lt le = rw (range_more bs i e lt le) refl

-- a word at the front, and what stands behind it
of_word : (bs : List ℕ) (i upto : ℕ) → i < upto → upto ≤ length bs → blank_at bs i ≡ false →
    of_range bs i upto ≡ slice_range bs i (word_end bs i upto) ∷ of_range bs (word_end bs i upto) upto
unfolding words_of
of_word bs i upto lt le full =
    let e = word_end bs i upto in
    let past : i < e = word_past bs i upto lt full in
    let below : e ≤ upto = first_below (blank_at bs) i upto (omega arith) in
    let w = slice_range bs i e in
    let clean : All (λ b. is_blank b ≡ false) w =
    range_all (e - i) (λ b. is_blank b ≡ false) bs i e (omega arith) (omega arith) (λ k l m. first_fails (blank_at bs) i upto k (omega arith) l m) in
    let some : is_some_word w ≡ true = some_range bs i e past (omega arith) in
    let parts : slice_range bs i upto ≡ w ++ slice_range bs e upto = cut (e - i) bs i e upto (omega arith) below le in
    elim (cases_lt e upto) [
      | inl short ↦
          let blank : is_blank (get_or bs e 0) ≡ true = first_passes (blank_at bs) i upto (omega arith) short in
          let rest = range_more bs e upto short le in
          ap (λ (xs : List ℕ). filter is_some_word (slice_split is_blank xs)) (parts ∙ ap (λ (xs : List ℕ). w ++ xs) rest)
          ∙ ap (filter is_some_word) (slice_split_at is_blank w (get_or bs e 0) (slice_range bs (e + 1) upto) clean blank)
          ∙ rw some (ap (λ (ws : List (List ℕ)). w ∷ ws) (sym (ap (λ (xs : List ℕ). filter is_some_word (slice_split is_blank xs)) rest ∙ rw blank refl)))
      | inr all ↦
          let s : upto ≡ e = omega arith in
          let none : slice_range bs e upto ≡ [] = ap (slice_range bs e) s ∙ range_none bs e in
          ap (λ (xs : List ℕ). filter is_some_word (slice_split is_blank xs)) (parts ∙ ap (λ (xs : List ℕ). w ++ xs) none ∙ append-nil w)
          ∙ ap (filter is_some_word) (slice_split_none is_blank w clean)
          ∙ rw some (ap (λ (ws : List (List ℕ)). w ∷ ws) (sym (ap (λ (xs : List ℕ). filter is_some_word (slice_split is_blank xs)) none)))
    ]

no_words : words_of [] ≡ []
unfolding words_of
no_words = refl

at_end : (bs : List ℕ) (i upto : ℕ) → upto ≤ i → texts bs (words_between bs i upto) ≡ of_range bs i upto
at_end bs i upto le =
    let s : upto - i ≡ 0 = omega arith in
    ap (texts bs) (words_end bs i upto le) ∙ sym (ap (λ (n : ℕ). words_of (take n (drop i bs))) s ∙ no_words)

same : (n : ℕ) (bs : List ℕ) (i upto : ℕ) → upto - i ≤ n → i ≤ upto → upto ≤ length bs → texts bs (words_between bs i upto) ≡ of_range bs i upto
same zero bs i upto h iu le = at_end bs i upto (omega arith)
same (suc n) bs i upto h iu le =
    elim (cases_lt i upto) [
      | inr end ↦ at_end bs i upto end
      | inl lt ↦
          elim (cases_Bool (blank_at bs i)) [
            | inl e ↦ ap (texts bs) (words_blank bs i upto lt e) ∙ same n bs (i + 1) upto (omega arith) (omega arith) le ∙ sym (of_blank bs i upto lt le e)
            | inr e ↦
                let past : i < word_end bs i upto = word_past bs i upto lt e in
                let below : word_end bs i upto ≤ upto = first_below (blank_at bs) i upto (omega arith) in
                ap (texts bs) (words_word bs i upto lt e)
                ∙ ap (λ (ws : List (List ℕ)). slice_range bs i (word_end bs i upto) ∷ ws) (same n bs (word_end bs i upto) upto (omega arith) below le)
                ∙ sym (of_word bs i upto lt le e)
          ]
    ]

-- the words by their places are the parts between blanks
pub same_words : (bs : List ℕ) (i upto : ℕ) → i ≤ upto → upto ≤ length bs → texts bs (words_between bs i upto) ≡ words_of (slice_range bs i upto)
same_words bs i upto iu le = same (upto - i) bs i upto (omega arith) iu le
