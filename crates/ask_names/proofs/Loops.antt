-- Loops that make one item of each item of a list, or leave some out, or look for the first of some.
use Rattle.std.proofs.Common.{◌≡◌, ℕ, zero, suc, ◌+◌, ◌-◌, ◌<◌, ◌≤◌, Bool, true, false, cond, List, [], ◌∷◌, ◌++◌, length, drop, get_or, map, Some, None, refl, sym, ap, ◌∙◌, arith, append_assoc, append-nil}
use Rattle.std.specs.Prelude.{filter, find}
use Rattle.std.specs.List.{range_with_len}
use Rattle.std.proofs.lemmas.List.{at_drop_more, at_drop_all}
use Rattle.base_kit.specs.Sets.{AllAbove, IsAscending}

-- one more item
pub step_at : {X Y : Type 0} (f : X → Y) (xs : List X) (i : ℕ) (d : X) (made : List Y) (y : Y) (all : List Y) → i < length xs → y ≡ f (get_or xs i d) →
    made ++ map f (drop i xs) ≡ all → (made ++ y ∷ []) ++ map f (drop (i + 1) xs) ≡ all
step_at f xs i d made y all inside is before =
    append_assoc made (y ∷ []) (map f (drop (i + 1) xs))
    ∙ ap (λ z. made ++ (z ∷ map f (drop (i + 1) xs))) is
    ∙ ap (λ zs. made ++ zs) (sym (at_drop_more (map f) xs i d inside))
    ∙ before

pub step : {X Y : Type 0} (f : X → Y) (xs : List X) (i : ℕ) (x : X) (made : List Y) (y : Y) (all : List Y) → i < length xs → x ≡ get_or xs i x → y ≡ f x →
    made ++ map f (drop i xs) ≡ all → (made ++ y ∷ []) ++ map f (drop (i + 1) xs) ≡ all
step f xs i x made y all inside at is before = step_at f xs i x made y all inside (is ∙ ap f at) before

pub done : {X Y : Type 0} (f : X → Y) (xs : List X) (i : ℕ) (made : List Y) (all : List Y) → length xs ≤ i → made ++ map f (drop i xs) ≡ all → made ≡ all
done f xs i made all past before = sym (append-nil made) ∙ ap (λ zs. made ++ zs) (sym (at_drop_all (map f) xs i past)) ∙ before

pub map_on : {X Y Z : Type 0} (f : Y → Z) (g : X → Y) (xs : List X) → map (λ x. f (g x)) xs ≡ map f (map g xs)
map_on f g [] = refl
map_on f g (x ∷ xs) = ap (λ rest. f (g x) ∷ rest) (map_on f g xs)

-- ---- numbers that pass a test

next_number : (p : ℕ → Bool) (place left : ℕ) → filter p (range_with_len place (suc left)) ≡
    cond (p place) (place ∷ filter p (range_with_len (place + 1) left)) (filter p (range_with_len (place + 1) left))
next_number p place left = refl

pub passed_number : (p : ℕ → Bool) (made all : List ℕ) (place n : ℕ) → place < n → p place ≡ true → made ++ filter p (range_with_len place (n - place)) ≡ all →
    (made ++ place ∷ []) ++ filter p (range_with_len (place + 1) (n - (place + 1))) ≡ all
passed_number p made all place n inside passes before =
    let left = n - (place + 1) in
    let long : n - place ≡ suc left = omega arith in
    append_assoc made (place ∷ []) (filter p (range_with_len (place + 1) left))
    ∙ ap (λ b. made ++ cond b (place ∷ filter p (range_with_len (place + 1) left)) (filter p (range_with_len (place + 1) left))) (sym passes)
    ∙ ap (λ k. made ++ filter p (range_with_len place k)) (sym long)
    ∙ before

pub failed_number : (p : ℕ → Bool) (made all : List ℕ) (place n : ℕ) → place < n → p place ≡ false → made ++ filter p (range_with_len place (n - place)) ≡ all →
    made ++ filter p (range_with_len (place + 1) (n - (place + 1))) ≡ all
failed_number p made all place n inside fails before =
    let left = n - (place + 1) in
    let long : n - place ≡ suc left = omega arith in
    ap (λ b. made ++ cond b (place ∷ filter p (range_with_len (place + 1) left)) (filter p (range_with_len (place + 1) left))) (sym fails)
    ∙ ap (λ k. made ++ filter p (range_with_len place k)) (sym long)
    ∙ before

pub no_number_left : (p : ℕ → Bool) (made all : List ℕ) (place n : ℕ) → n ≤ place → made ++ filter p (range_with_len place (n - place)) ≡ all → made ≡ all
no_number_left p made all place n past before =
    let none : n - place ≡ 0 = omega arith in
    sym (append-nil made) ∙ ap (λ k. made ++ filter p (range_with_len place k)) (sym none) ∙ before

above : (p : ℕ → Bool) (m from len : ℕ) → m < from → AllAbove m (filter p (range_with_len from len))
above p m from zero less = tt
above p m from (suc len) less = by (p from) (above p m (from + 1) len (omega arith))
  where
    by : (b : Bool) → AllAbove m (filter p (range_with_len (from + 1) len)) →
        AllAbove m (cond b (from ∷ filter p (range_with_len (from + 1) len)) (filter p (range_with_len (from + 1) len)))
    by true rest = (less, rest)
    by false rest = rest

pub numbers_ascend : (p : ℕ → Bool) (from len : ℕ) → IsAscending (filter p (range_with_len from len))
numbers_ascend p from zero = tt
numbers_ascend p from (suc len) = by (p from) (numbers_ascend p (from + 1) len)
  where
    by : (b : Bool) → IsAscending (filter p (range_with_len (from + 1) len)) →
        IsAscending (cond b (from ∷ filter p (range_with_len (from + 1) len)) (filter p (range_with_len (from + 1) len)))
    by true rest = (above p from (from + 1) len (omega arith), rest)
    by false rest = rest

-- ---- the first that passes a test

pub found_here : {X : Type 0} (p : X → Bool) (xs : List X) (i : ℕ) (x : X) → i < length xs → x ≡ get_or xs i x → p x ≡ true → find p (drop i xs) ≡ Some x
found_here {X} p xs i x inside at passes =
    at_drop_more (find p) xs i x inside
    ∙ ap (λ b. cond b (Some (get_or xs i x)) (find p (drop (i + 1) xs))) (sym (ap p at) ∙ passes)
    ∙ ap (λ (y : X). Some y) (sym at)

pub found_later : {X : Type 0} (p : X → Bool) (xs : List X) (i : ℕ) (x : X) → i < length xs → x ≡ get_or xs i x → p x ≡ false →
    find p (drop i xs) ≡ find p (drop (i + 1) xs)
found_later p xs i x inside at fails =
    at_drop_more (find p) xs i x inside
    ∙ ap (λ b. cond b (Some (get_or xs i x)) (find p (drop (i + 1) xs))) (sym (ap p at) ∙ fails)

pub found_nowhere : {X : Type 0} (p : X → Bool) (xs : List X) (i : ℕ) → length xs ≤ i → find p (drop i xs) ≡ None
found_nowhere p xs i past = at_drop_all (find p) xs i past
