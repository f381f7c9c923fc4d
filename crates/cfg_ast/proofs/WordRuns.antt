-- The words between two places, taken from the front.
use Rattle.std.proofs.Common.{◌≡◌, ℕ, zero, suc, ◌+◌, ◌-◌, ◌<◌, ◌≤◌, Bool, true, false, List, [], ◌∷◌, ◌++◌, map, filter, refl, ap, ◌∙◌, arith, inl, inr, eq-eqb}
use Rattle.std.specs.List.{range_with_len}
use Rattle.std.proofs.lemmas.List.Elements.{filter-append}
use Rattle.std.proofs.lemmas.Bool.{ne_eqb, cases_lt}
use Rattle.cfg_ast.specs.text.Lines.{blank_at, begins_word, word_at, word_end, words_between}
use Rattle.cfg_ast.proofs.Places.{range_step, range_end, first_next, first_from, first_below, first_fails, first_passes}

pub filter_same : (p q : ℕ → Bool) (a n : ℕ) → ((k : ℕ) → a ≤ k → k < a + n → p k ≡ q k) → filter p (range_with_len a n) ≡ filter q (range_with_len a n)
filter_same p q a zero same = refl
filter_same p q a (suc n) same = rw (same a (omega arith) (omega arith), filter_same p q (a + 1) n (λ k l h. same k (omega arith) (omega arith))) refl

pub filter_none : (p : ℕ → Bool) (a n : ℕ) → ((k : ℕ) → a ≤ k → k < a + n → p k ≡ false) → filter p (range_with_len a n) ≡ []
filter_none p a zero none = refl
filter_none p a (suc n) none = rw (none a (omega arith) (omega arith), filter_none p (a + 1) n (λ k l h. none k (omega arith) (omega arith))) refl

pub range_split : (a m n : ℕ) → range_with_len a (m + n) ≡ range_with_len a m ++ range_with_len (a + m) n
range_split a zero n = let e : a + 0 ≡ a = omega arith in let f : 0 + n ≡ n = omega arith in rw (f, e) refl
range_split a (suc m) n =
    let e : suc m + n ≡ suc (m + n) = omega arith in
    let f : a + suc m ≡ (a + 1) + m = omega arith in
    rw (e, f) (ap (λ r. a ∷ r) (range_split (a + 1) m n))

-- what begins a word does not depend on where the line begins, except at its first place
same_behind : (bs : List ℕ) (from next k : ℕ) → from < next → next < k → begins_word bs from k ≡ begins_word bs next k
same_behind bs from next k lt gt = rw (ne_eqb k from (omega arith), ne_eqb k next (omega arith)) refl

behind_blank : (bs : List ℕ) (i k : ℕ) → blank_at bs i ≡ true → i < k → begins_word bs i k ≡ begins_word bs (i + 1) k
behind_blank bs i k blank lt =
    elim (cases_lt (i + 1) k) [
      | inl gt ↦ same_behind bs i (i + 1) k (omega arith) gt
      | inr le ↦
          let before : blank_at bs (k - 1) ≡ true = ap (blank_at bs) (let e : k - 1 ≡ i = omega arith in e) ∙ blank in
          let e : k ≡ i + 1 = omega arith in
          rw (ne_eqb k i (omega arith), eq-eqb k (i + 1) e, before) refl
    ]

pub words_blank : (bs : List ℕ) (i upto : ℕ) → i < upto → blank_at bs i ≡ true → words_between bs i upto ≡ words_between bs (i + 1) upto
unfolding words_between
words_blank bs i upto lt blank =
    let here : begins_word bs i i ≡ false = rw blank refl in
    let first : filter (begins_word bs i) (range_with_len i (upto - i)) ≡ filter (begins_word bs i) (range_with_len (i + 1) (upto - (i + 1))) =
    ap (filter (begins_word bs i)) (range_step i upto lt) ∙ rw here refl in
    let rest = filter_same (begins_word bs i) (begins_word bs (i + 1)) (i + 1) (upto - (i + 1)) (λ k l h. behind_blank bs i k blank (omega arith)) in
    ap (map (word_at bs upto)) (first ∙ rest)

-- the bytes of a word begin none behind its first
inside_word : (bs : List ℕ) (i upto k : ℕ) → i < upto → i < k → k < word_end bs i upto → begins_word bs i k ≡ false
inside_word bs i upto k lt gt in_word =
    rw (
      first_fails (blank_at bs) i upto k (omega arith) (omega arith) in_word,
      ne_eqb k i (omega arith),
      first_fails (blank_at bs) i upto (k - 1) (omega arith) (omega arith) (omega arith),
    ) refl

behind_word : (bs : List ℕ) (i upto k : ℕ) → i < upto → i < word_end bs i upto → word_end bs i upto ≤ k → k < upto →
    begins_word bs i k ≡ begins_word bs (word_end bs i upto) k
behind_word bs i upto k lt past le inside =
    elim (cases_lt (word_end bs i upto) k) [
      | inl gt ↦ same_behind bs i (word_end bs i upto) k past gt
      | inr here ↦
          let e : k ≡ word_end bs i upto = omega arith in
          let blank : blank_at bs k ≡ true = ap (blank_at bs) e ∙ first_passes (blank_at bs) i upto (omega arith) (omega arith) in
          rw blank refl
    ]

pub words_word : (bs : List ℕ) (i upto : ℕ) → i < upto → blank_at bs i ≡ false →
    words_between bs i upto ≡ word_at bs upto i ∷ words_between bs (word_end bs i upto) upto
unfolding words_between
words_word bs i upto lt full =
    let end = word_end bs i upto in
    let past : i < end = omega (arith, first_next (blank_at bs) i upto lt full, first_from (blank_at bs) (i + 1) upto) in
    let below : end ≤ upto = first_below (blank_at bs) i upto (omega arith) in
    let p = begins_word bs i in
    let here : p i ≡ true = rw (full, eq-eqb i i refl) refl in
    let n : upto - (i + 1) ≡ (end - (i + 1)) + (upto - end) = omega arith in
    let m : (i + 1) + (end - (i + 1)) ≡ end = omega arith in
    let split : range_with_len (i + 1) (upto - (i + 1)) ≡ range_with_len (i + 1) (end - (i + 1)) ++ range_with_len end (upto - end) =
    ap (range_with_len (i + 1)) n ∙ range_split (i + 1) (end - (i + 1)) (upto - end)
    ∙ ap (λ (a : ℕ). range_with_len (i + 1) (end - (i + 1)) ++ range_with_len a (upto - end)) m in
    let none : filter p (range_with_len (i + 1) (end - (i + 1))) ≡ [] =
    filter_none p (i + 1) (end - (i + 1)) (λ k l h. inside_word bs i upto k lt (omega arith) (omega arith)) in
    let rest = filter_same p (begins_word bs end) end (upto - end) (λ k l h. behind_word bs i upto k lt past l (omega arith)) in
    let first : filter p (range_with_len i (upto - i)) ≡ i ∷ filter p (range_with_len (i + 1) (upto - (i + 1))) = ap (filter p) (range_step i upto lt)
    ∙ rw here refl in
    let second : filter p (range_with_len (i + 1) (upto - (i + 1))) ≡ filter (begins_word bs end) (range_with_len end (upto - end)) =
    ap (filter p) split ∙ filter-append p (range_with_len (i + 1) (end - (i + 1))) (range_with_len end (upto - end))
    ∙ ap (λ (xs : List ℕ). xs ++ filter p (range_with_len end (upto - end))) none ∙ rest in
    ap (map (word_at bs upto)) (first ∙ ap (λ (xs : List ℕ). i ∷ xs) second)

pub words_end : (bs : List ℕ) (i upto : ℕ) → upto ≤ i → words_between bs i upto ≡ []
unfolding words_between
words_end bs i upto le = rw (range_end i upto le) refl

pub word_past : (bs : List ℕ) (i upto : ℕ) → i < upto → blank_at bs i ≡ false → i < word_end bs i upto
word_past bs i upto lt full = omega (arith, first_next (blank_at bs) i upto lt full, first_from (blank_at bs) (i + 1) upto)
