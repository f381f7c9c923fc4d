-- Where words are numbers, and where points stand.
use Rattle.std.proofs.Common.{◌≡◌, ◌≢◌, ℕ, zero, suc, ◌+◌, ◌-◌, ◌*◌, ◌<◌, ◌≤◌, true, false, List, [], ◌∷◌, length, get_or, take, drop, refl, sym, ◌∙◌, ap, subst, inl, inr, arith, add-one, length-drop, Some, None}
use Rattle.std.proofs.lemmas.List.{take_all}
use Rattle.std.proofs.lemmas.Bool.{cases_eq}
use Rattle.std.proofs.Math.Seq.{drop-cons}
use Rattle.std.specs.List.{list_all}
use Rattle.std.proofs.lemmas.Bool.Decides.{nat_tests}
use Rattle.base_kit.specs.Numbers.{is_digit, value_from, is_numeral, number_up_to, parts_at_points, onto_first_part, address_of_parts}

pub value_from-le : (value : ℕ) (word : List ℕ) → value ≤ value_from value word
value_from-le value [] = omega arith
value_from-le value (b ∷ word) = omega (arith, value_from-le (value * 10 + (b - 48)) word)

pub is_plain_digits : (word : List ℕ) → 0 < length word → (1 < length word → get_or word 0 0 ≢ 48) → is_numeral word ≡ list_all is_digit word
is_plain_digits [] some head = absurd (omega arith)
is_plain_digits (b ∷ []) some head = grind (arith, nat_tests)
is_plain_digits (b ∷ c ∷ word) some head = let other : b ≢ 48 = head (omega arith) in grind (arith, nat_tests)

-- a word with something else than digits in it
pub no_number : (most : ℕ) (word : List ℕ) → is_numeral word ≡ false → number_up_to most word ≡ None
no_number most word bad = rw bad refl

-- a number that is too large
pub large_number : (most : ℕ) (word : List ℕ) → most < value_from 0 word → number_up_to most word ≡ None
large_number most word large = grind (arith, nat_tests)

pub a_number : (most : ℕ) (word : List ℕ) → is_numeral word ≡ true → value_from 0 word ≤ most → number_up_to most word ≡ Some (value_from 0 word)
a_number most word plain small = grind (arith, nat_tests)

skip : (b : ℕ) (word : List ℕ) → b ≢ 46 → parts_at_points (b ∷ word) ≡ onto_first_part b (parts_at_points word)
skip b word other = grind (arith, nat_tests)

-- the first point
cut : (word : List ℕ) (i : ℕ) → i < length word → ((k : ℕ) → k < i → get_or word k 0 ≢ 46) → get_or word i 0 ≡ 46 →
    parts_at_points word ≡ take i word ∷ parts_at_points (drop (suc i) word)
cut [] i below none here = absurd (omega arith)
cut (b ∷ word) zero below none here = rw here refl
cut (b ∷ word) (suc i) below none here = skip b word (none 0 (omega arith))
    ∙ ap (λ parts. onto_first_part b parts) (cut word i (omega arith) (λ k le. none (suc k) (omega arith)) here)

pub parts_cut : (word : List ℕ) (i : ℕ) → i < length word → ((k : ℕ) → k < i → get_or word k 0 ≢ 46) → get_or word i 0 ≡ 46
    → parts_at_points word ≡ take i word ∷ parts_at_points (take (length word - (i + 1)) (drop (i + 1) word))
parts_cut word i below none here =
    let whole : take (length word - (i + 1)) (drop (i + 1) word) ≡ drop (i + 1) word = take_all _ _ (omega (arith, length-drop (i + 1) word)) in
    rw (whole, add-one) (cut word i below none here)

-- no point
pub parts_none : (word : List ℕ) → ((k : ℕ) → k < length word → get_or word k 0 ≢ 46) → parts_at_points word ≡ word ∷ []
parts_none [] none = refl
parts_none (b ∷ word) none = skip b word (none 0 (omega arith)) ∙ ap (λ parts. onto_first_part b parts) (parts_none word (λ k le. none (suc k) (omega arith)))

-- a digit more makes it too large
pub large_step : (most value i : ℕ) (word : List ℕ) → i < length word → value_from value (drop i word) ≡ value_from 0 word →
    most < value * 10 + (get_or word i 0 - 48) → most < value_from 0 word
large_step most value i word below same large =
    let here : value_from value (drop i word) ≡ value_from (value * 10 + (get_or word i 0 - 48)) (drop (suc i) word) =
    ap (λ (w : List ℕ). value_from value w) (drop-cons word i 0 below) in
    omega (arith, value_from-le (value * 10 + (get_or word i 0 - 48)) (drop (suc i) word), here, same)

-- there is always a part
record Cons (parts : List (List ℕ)) : Type 0 where
  first : List ℕ
  others : List (List ℕ)
  is : parts ≡ first ∷ others

onto_cons : (b : ℕ) (parts : List (List ℕ)) → Cons (onto_first_part b parts)
onto_cons b [] = record { first = b ∷ []; others = []; is = refl }
onto_cons b (p ∷ ps) = record { first = b ∷ p; others = ps; is = refl }

parts_cons : (word : List ℕ) → Cons (parts_at_points word)
parts_cons [] = record { first = []; others = []; is = refl }
parts_cons (b ∷ word) = elim (cases_eq b 46) [
  | inl here ↦ record { first = []; others = parts_at_points word; is = rw here refl }
  | inr other ↦ subst Cons (sym (skip b word other)) (onto_cons b (parts_at_points word))
]

-- five parts are no address
pub five_parts : (a b c d word : List ℕ) → address_of_parts (a ∷ b ∷ c ∷ d ∷ parts_at_points word) ≡ None
five_parts a b c d word = let more = parts_cons word in ap (λ parts. address_of_parts (a ∷ b ∷ c ∷ d ∷ parts)) more.is
