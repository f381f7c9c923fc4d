-- The words of a path are read as the path.
use Rattle.std.proofs.Common.{◌≡◌, ℕ, zero, suc, ◌+◌, ◌*◌, ◌/◌, ◌%◌, ◌^◌, ◌<◌, ◌≤◌, Bool, true, false, cond, ◌||◌, List, [], ◌∷◌, ◌++◌, length, take, drop, flat_map, replicate, refl, sym, ap, ◌∙◌, arith, append_assoc, Option, Some, None, codes}
use Rattle.std.specs.Prelude.{nat_eq, nat_le, ◌==◌}
use Rattle.std.specs.Fmt.{decimal}
use Rattle.std.specs.List.{AllByRecursion, list_any, position_or_len, before_first, after_first}
use Rattle.std.specs.Option.{option_map}
use Rattle.std.proofs.lemmas.Bool.{ne_eqb, eqb-true}
use Rattle.std.proofs.lemmas.Bool.Decides.{nat_tests}
use Rattle.std.proofs.Math.Seq.{take-append_seam, drop-append-add}
use Rattle.cfg_ast.specs.printing.WellFormed.{IsBetween}
use Rattle.given_laws.proofs.Each.{all_weaker}
use Rattle.cfg_round_trip.proofs.WordsBack.{IsDigit, decimal_digits, as_number_back, between_back}
use Rattle.solution_text.specs.Forms.{is_star, is_comms, piece_of, behind, path_of_words}
use Rattle.solution_text.specs.Printed.{with_run, runs_of, piece_word, rest_words, run_words, path_words}

-- ---- the star of a word

first_place : (test : ℕ → Bool) (xs : List ℕ) (y : ℕ) (ys : List ℕ) → AllByRecursion (λ x. test x ≡ false) xs → test y ≡ true →
    position_or_len test (xs ++ y ∷ ys) ≡ length xs
first_place test [] y ys none here = rw here refl
first_place test (x ∷ xs) y ys none here = rw (none.0) (ap (λ n. 1 + n) (first_place test xs y ys none.1 here) ∙ omega arith)

before_star : (xs ys : List ℕ) → AllByRecursion (λ x. is_star x ≡ false) xs → before_first is_star (xs ++ 42 ∷ ys) ≡ xs
before_star xs ys none = ap (λ n. take n (xs ++ 42 ∷ ys)) (first_place is_star xs 42 ys none refl) ∙ take-append_seam xs (42 ∷ ys)

after_star : (xs ys : List ℕ) → AllByRecursion (λ x. is_star x ≡ false) xs → after_first is_star (xs ++ 42 ∷ ys) ≡ ys
after_star xs ys none = ap (λ n. drop (n + 1) (xs ++ 42 ∷ ys)) (first_place is_star xs 42 ys none refl) ∙ drop-append-add xs (42 ∷ ys) 1

has_star : (xs ys : List ℕ) → list_any is_star (xs ++ 42 ∷ ys) ≡ true
has_star [] ys = refl
has_star (x ∷ xs) ys = rw (has_star xs ys) (or_true (is_star x))
  where
    or_true : (b : Bool) → (b || true) ≡ true
    or_true true = refl
    or_true false = refl

no_any : (test : ℕ → Bool) (xs : List ℕ) → AllByRecursion (λ x. test x ≡ false) xs → list_any test xs ≡ false
no_any test [] none = refl
no_any test (x ∷ xs) none = rw (none.0) (no_any test xs none.1)

wide : (n : ℕ) → n ≤ 4294967295 → n < 2 ^ 64
wide n le = omega arith

no_star : (n : ℕ) → n ≤ 4294967295 → AllByRecursion (λ b. is_star b ≡ false) (decimal n)
no_star n le = all_weaker IsDigit (λ b. is_star b ≡ false) (λ b is. ne_eqb b 42 (λ e. let low = is.0 in omega arith)) (decimal n)
    (decimal_digits n (wide n le)).digits

-- ---- one word

append_nil : (path : List ℕ) → path ++ [] ≡ path
append_nil [] = refl
append_nil (n ∷ path) = ap (λ (p : List ℕ). n ∷ p) (append_nil path)

abbrev pub IsAs : ℕ → Type 0
IsAs n = IsBetween 1 4294967295 n

-- no word of a path is `comms`: it begins with a digit
not_comms : (word : List ℕ) → 1 ≤ length word → AllByRecursion IsDigit word → (rest : List ℕ) → is_comms (word ++ rest) ≡ false
not_comms [] some digits rest = absurd (omega arith)
not_comms (b ∷ word) some digits rest = (let high = digits.0.1 in let other : (b == 99) ≡ false = ne_eqb b 99 (λ e. omega arith) in rw other refl)

piece_not_comms : (n count : ℕ) → IsAs n → is_comms (piece_word n count) ≡ false
piece_not_comms n count range = step (nat_le count 1) refl
  where
    step : (b : Bool) → nat_le count 1 ≡ b → is_comms (piece_word n count) ≡ false
    step true e = rw e (ap is_comms (sym (append_nil (decimal n)))
        ∙ not_comms (decimal n) (decimal_digits n (wide n range.1)).some (decimal_digits n (wide n range.1)).digits [])
    step false e = rw e (not_comms (decimal n) (decimal_digits n (wide n range.1)).some (decimal_digits n (wide n range.1)).digits (42 ∷ decimal count))

one_back : (n : ℕ) → IsAs n → piece_of (decimal n) ≡ Some (n ∷ [])
unfolding piece_of
one_back n range = rw (no_any is_star (decimal n) (no_star n range.1), as_number_back n range) refl

several_back : (n count : ℕ) → IsAs n → IsBetween 2 11 count → piece_of (decimal n ++ 42 ∷ decimal count) ≡ Some (replicate count n)
unfolding piece_of
several_back n count range few =
    let most : count ≤ 4294967295 = let high = few.1 in omega arith in
    rw (
      has_star (decimal n) (decimal count),
      before_star (decimal n) (decimal count) (no_star n range.1),
      after_star (decimal n) (decimal count) (no_star n range.1),
      as_number_back n range,
      between_back 2 11 count most few,
    ) refl

one_count : (n count : ℕ) → 1 ≤ count → nat_le count 1 ≡ true → n ∷ [] ≡ replicate count n
one_count n count some e =
    let one : 1 ≡ count = grind (arith, nat_tests) in
    ap (λ (c : ℕ). replicate c n) one

piece_back : (n count : ℕ) → IsAs n → IsBetween 1 11 count → piece_of (piece_word n count) ≡ Some (replicate count n)
piece_back n count range few = step (nat_le count 1) refl
  where
    step : (b : Bool) → nat_le count 1 ≡ b → piece_of (piece_word n count) ≡ Some (replicate count n)
    step true e = rw e (one_back n range ∙ ap (λ p. Some p) (one_count n count few.0 e))
    step false e = rw e (several_back n count range (let high = few.1 in grind (arith, nat_tests), few.1))

-- ---- words of a path, in front of more

abbrev Read : Type 0
Read = Option (List ℕ × List (List ℕ))

-- numbers in front of the path that is read
abbrev before : List ℕ → Read → Read
before piece r = option_map (behind piece) r

before_none : (r : Read) → before [] r ≡ r
before_none None = refl
before_none (Some (path, rest)) = refl

before_both : (a b : List ℕ) (r : Read) → before a (before b r) ≡ before (a ++ b) r
before_both a b None = refl
before_both a b (Some (path, rest)) = ap (λ (p : List ℕ). Some (p, rest)) (sym (append_assoc a b path))

word_back : (n count : ℕ) (words : List (List ℕ)) → IsAs n → IsBetween 1 11 count →
    path_of_words (piece_word n count ∷ words) ≡ before (replicate count n) (path_of_words words)
unfolding path_of_words
word_back n count words range few = rw (piece_not_comms n count range, piece_back n count range few) refl

replicate_both : (a b n : ℕ) → replicate a n ++ replicate b n ≡ replicate (a + b) n
replicate_both zero b n =
    let none : b ≡ 0 + b = omega arith in
    ap (λ (k : ℕ). replicate k n) none
replicate_both (suc a) b n =
    let more : suc (a + b) ≡ suc a + b = omega arith in
    ap (λ (p : List ℕ). n ∷ p) (replicate_both a b n) ∙ ap (λ (k : ℕ). replicate k n) more

full_back : (times n : ℕ) (words : List (List ℕ)) → IsAs n →
    path_of_words (replicate times (piece_word n 11) ++ words) ≡ before (replicate (times * 11) n) (path_of_words words)
full_back zero n words range = sym (before_none (path_of_words words))
full_back (suc times) n words range =
    let more : suc times * 11 ≡ 11 + times * 11 = omega arith in
    word_back n 11 (replicate times (piece_word n 11) ++ words) range (omega arith, omega arith)
    ∙ ap (before (replicate 11 n)) (full_back times n words range)
    ∙ before_both (replicate 11 n) (replicate (times * 11) n) (path_of_words words)
    ∙ ap (λ (p : List ℕ). before p (path_of_words words)) (replicate_both 11 (times * 11) n ∙ ap (λ (k : ℕ). replicate k n) (sym more))

rest_back : (n count : ℕ) (words : List (List ℕ)) → IsAs n → count ≤ 10 →
    path_of_words (rest_words n count ++ words) ≡ before (replicate count n) (path_of_words words)
rest_back n count words range few = step (nat_eq count 0) refl
  where
    step : (b : Bool) → nat_eq count 0 ≡ b → path_of_words (rest_words n count ++ words) ≡ before (replicate count n) (path_of_words words)
    step true e = (let none : 0 ≡ count = sym (eqb-true count 0 e) in
        rw e (sym (before_none (path_of_words words)) ∙ ap (λ (k : ℕ). before (replicate k n) (path_of_words words)) none))
    step false e = rw e (word_back n count words range (grind (arith, nat_tests), omega arith))

run_back : (n count : ℕ) (words : List (List ℕ)) → IsAs n → path_of_words (run_words (n, count) ++ words) ≡ before (replicate count n) (path_of_words words)
run_back n count words range =
    let few : count % 11 ≤ 10 = omega arith in
    let whole : count / 11 * 11 + count % 11 ≡ count = omega arith in
    ap path_of_words (append_assoc (replicate (count / 11) (piece_word n 11)) (rest_words n (count % 11)) words)
    ∙ full_back (count / 11) n (rest_words n (count % 11) ++ words) range
    ∙ ap (before (replicate (count / 11 * 11) n)) (rest_back n (count % 11) words range few)
    ∙ before_both (replicate (count / 11 * 11) n) (replicate (count % 11) n) (path_of_words words)
    ∙ ap (λ (p : List ℕ). before p (path_of_words words)) (replicate_both (count / 11 * 11) (count % 11) n ∙ ap (λ (k : ℕ). replicate k n) whole)

-- ---- all runs

abbrev numbers_of : List (ℕ × ℕ) → List ℕ
numbers_of [] = []
numbers_of ((n, count) ∷ runs) = replicate count n ++ numbers_of runs

abbrev pub AreRuns : List (ℕ × ℕ) → Type 0
AreRuns [] = Unit {0}
AreRuns ((n, count) ∷ runs) = IsAs n × AreRuns runs

with_run_is : (n : ℕ) (runs : List (ℕ × ℕ)) → IsAs n → AreRuns runs → AreRuns (with_run n runs)
with_run_is n [] range are = (range, tt)
with_run_is n ((m, count) ∷ runs) range are = step (nat_eq n m)
  where
    step : (b : Bool) → AreRuns (cond b ((m, count + 1) ∷ runs) ((n, 1) ∷ (m, count) ∷ runs))
    step true = are
    step false = (range, are)

pub runs_are : (path : List ℕ) → AllByRecursion IsAs path → AreRuns (runs_of path)
runs_are [] each = tt
runs_are (n ∷ path) each = with_run_is n (runs_of path) each.0 (runs_are path each.1)

numbers_with : (n : ℕ) (runs : List (ℕ × ℕ)) → numbers_of (with_run n runs) ≡ n ∷ numbers_of runs
numbers_with n [] = refl
numbers_with n ((m, count) ∷ runs) = step (nat_eq n m) refl
  where
    step : (b : Bool) → nat_eq n m ≡ b → numbers_of (cond b ((m, count + 1) ∷ runs) ((n, 1) ∷ (m, count) ∷ runs)) ≡ n ∷ (replicate count m ++ numbers_of runs)
    step true e =
        let one : m ≡ n = sym (eqb-true n m e) in
        let more : count + 1 ≡ suc count = omega arith in
        ap (λ (k : ℕ). replicate k m ++ numbers_of runs) more ∙ ap (λ (k : ℕ). k ∷ (replicate count m ++ numbers_of runs)) one
    step false e = refl

numbers_back : (path : List ℕ) → numbers_of (runs_of path) ≡ path
numbers_back [] = refl
numbers_back (n ∷ path) = numbers_with n (runs_of path) ∙ ap (λ (p : List ℕ). n ∷ p) (numbers_back path)

runs_back : (runs : List (ℕ × ℕ)) (words : List (List ℕ)) → AreRuns runs →
    path_of_words (flat_map run_words runs ++ words) ≡ before (numbers_of runs) (path_of_words words)
runs_back [] words are = sym (before_none (path_of_words words))
runs_back ((n, count) ∷ runs) words are =
    ap path_of_words (append_assoc (run_words (n, count)) (flat_map run_words runs) words)
    ∙ run_back n count (flat_map run_words runs ++ words) are.0
    ∙ ap (before (replicate count n)) (runs_back runs words are.1)
    ∙ before_both (replicate count n) (numbers_of runs) (path_of_words words)

-- the words of a path, the word `comms` and more
pub path_back : (path : List ℕ) (words : List (List ℕ)) → AllByRecursion IsAs path
    → path_of_words (path_words path ++ (codes "comms" ∷ words)) ≡ Some (path, words)
unfolding path_words path_of_words
path_back path words each =
    runs_back (runs_of path) (codes "comms" ∷ words) (runs_are path each)
    ∙ ap (λ (p : List ℕ). Some (p, words)) (append_nil (numbers_of (runs_of path)) ∙ numbers_back path)
