-- The words of a path that an exporter sends: its own number, which is not on the path behind, is one word more.
use Rattle.std.proofs.Common.{◌≡◌, ◌≤◌, ◌<◌, ℕ, zero, suc, ◌+◌, ◌/◌, ◌%◌, Bool, true, false, cond, ◌||◌, List, [], ◌∷◌, ◌++◌, length, flat_map, replicate, refl, ap, ◌∙◌, subst, arith, length-append}
use Rattle.std.specs.Prelude.{nat_eq, nat_le}
use Rattle.std.specs.Fmt.{decimal}
use Rattle.std.proofs.lemmas.Bool.Decides.{nat_tests}
use Rattle.cfg_ast.specs.printing.WellFormed.{IsNumber}
use Rattle.cfg_round_trip.proofs.ShortWords.{weight, number_short, digits_short}
use Rattle.solution_text.specs.Printed.{with_run, runs_of, piece_word, rest_words, run_words, path_words}
use Rattle.srp_core.specs.Acts.{prepended}
use Rattle.srp_core.specs.Routes.{is_on}

pub weight_both : (xs ys : List (List ℕ)) → weight (xs ++ ys) ≡ weight xs + weight ys
weight_both [] ys = omega arith
weight_both (x ∷ xs) ys = omega (arith, weight_both xs ys)

-- ---- one run

piece_light : (n count : ℕ) → IsNumber n → count ≤ 11 → length (piece_word n count) ≤ 13
piece_light n count number few = step (nat_le count 1)
  where
    step : (b : Bool) → length (cond b (decimal n) (decimal n ++ 42 ∷ decimal count)) ≤ 13
    step true = omega (arith, number_short n number)
    step false =
        omega (arith, number_short n number, length-append (decimal n) (42 ∷ decimal count), digits_short 2 count (omega arith) (omega arith) (omega arith))

rest_light : (n count : ℕ) → IsNumber n → count ≤ 11 → weight (rest_words n count) ≤ 14
rest_light n count number few = step (nat_eq count 0)
  where
    step : (b : Bool) → weight (cond b [] (piece_word n count ∷ [])) ≤ 14
    step true = omega arith
    step false = omega (arith, piece_light n count number few)

run_light : (n count : ℕ) → IsNumber n → count ≤ 11 → weight (run_words (n, count)) ≤ 14
run_light n count number few = step (nat_eq count 11) refl
  where
    step : (b : Bool) → nat_eq count 11 ≡ b → weight (run_words (n, count)) ≤ 14
    step true e = (
        let all : 11 ≡ count = grind (arith, nat_tests) in
        subst (λ (k : ℕ). weight (run_words (n, k)) ≤ 14) all (omega (arith, piece_light n 11 number (omega arith)))
        )
    step false e = (
        let less : count < 11 = grind (arith, nat_tests) in
        let none : 0 ≡ count / 11 = omega arith in
        let whole : count ≡ count % 11 = omega arith in
        subst (λ (k : ℕ). weight (replicate k (piece_word n 11) ++ rest_words n (count % 11)) ≤ 14) none
        (subst (λ (k : ℕ). weight (rest_words n k) ≤ 14) whole (rest_light n count number few))
        )

-- ---- a run in front of a path that has not its number

abbrev FirstOther : ℕ → List (ℕ × ℕ) → Type 0
FirstOther n [] = Unit {0}
FirstOther n ((m, count) ∷ runs) = nat_eq n m ≡ false

new_run : (n : ℕ) (runs : List (ℕ × ℕ)) → FirstOther n runs → with_run n runs ≡ (n, 1) ∷ runs
new_run n [] other = refl
new_run n ((m, count) ∷ runs) other = rw other refl

first_with : (n h : ℕ) (runs : List (ℕ × ℕ)) → nat_eq n h ≡ false → FirstOther n (with_run h runs)
first_with n h [] other = other
first_with n h ((m, count) ∷ runs) other = step (nat_eq h m) refl
  where
    step : (b : Bool) → nat_eq h m ≡ b → FirstOther n (cond b ((m, count + 1) ∷ runs) ((h, 1) ∷ (m, count) ∷ runs))
    step true e = (let same : h ≡ m = grind (arith, nat_tests) in subst (λ (k : ℕ). nat_eq n k ≡ false) same other)
    step false e = other

first_other : (n : ℕ) (path : List ℕ) → is_on n path ≡ false → FirstOther n (runs_of path)
first_other n [] off = tt
first_other n (h ∷ path) off = first_with n h (runs_of path) (step (nat_eq h n) refl off)
  where
    step : (b : Bool) → nat_eq h n ≡ b → (b || is_on n path) ≡ false → nat_eq n h ≡ false
    step true e off = cc
    step false e off = grind (arith, nat_tests)

one_more : (n count : ℕ) (runs : List (ℕ × ℕ)) → with_run n ((n, count) ∷ runs) ≡ (n, count + 1) ∷ runs
one_more n count runs = rw own refl
  where
    own : nat_eq n n ≡ true
    own = grind (arith, nat_tests)

run_before : (n times : ℕ) (path : List ℕ) → is_on n path ≡ false → runs_of (prepended (suc times) n path) ≡ (n, suc times) ∷ runs_of path
run_before n zero path off = new_run n (runs_of path) (first_other n path off)
run_before n (suc times) path off =
    let more : suc times + 1 ≡ suc (suc times) = omega arith in
    ap (with_run n) (run_before n times path off) ∙ one_more n (suc times) (runs_of path) ∙ ap (λ (k : ℕ). (n, k) ∷ runs_of path) more

pub path_more : (n times : ℕ) (path : List ℕ) → IsNumber n → times ≤ 10 → is_on n path ≡ false
    → weight (path_words (prepended (suc times) n path)) ≤ 14 + weight (path_words path)
unfolding path_words
path_more n times path number few off =
    let words = ap (flat_map run_words) (run_before n times path off) in
    omega (arith, ap weight words, weight_both (run_words (n, suc times)) (flat_map run_words (runs_of path)), run_light n (suc times) number (omega arith))

pub path_none : weight (path_words []) ≡ 0
unfolding path_words
path_none = refl
