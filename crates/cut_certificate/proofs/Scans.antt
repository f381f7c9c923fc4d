-- Tests of all that is left of a list.
use Rattle.std.proofs.Common.{◌≡◌, ℕ, ◌+◌, ◌<◌, ◌≤◌, Bool, true, false, cond, ◌&&◌, ◌||◌, List, ◌∷◌, length, get_or, drop, Some, None, sym, ap, ◌∙◌, drop-cons, add-one}
use Rattle.std.specs.List.{list_all, list_any, find}
use Rattle.std.proofs.lemmas.List.{drop_all}

pub first_left : {X : Type 0} (xs : List X) (k : ℕ) (d : X) → k < length xs → drop k xs ≡ get_or xs k d ∷ drop (k + 1) xs
first_left xs k d h = drop-cons xs k d h ∙ ap (λ (j : ℕ). get_or xs k d ∷ drop j xs) (sym (add-one k))

-- the first that is left passes, or fails
pub all_next : {X : Type 0} (test : X → Bool) (xs : List X) (k : ℕ) (d : X) → k < length xs → test (get_or xs k d) ≡ true
    → list_all test (drop k xs) ≡ list_all test (drop (k + 1) xs)
all_next test xs k d h e = ap (list_all test) (first_left xs k d h) ∙ ap (λ b. b && list_all test (drop (k + 1) xs)) e

pub all_fails : {X : Type 0} (test : X → Bool) (xs : List X) (k : ℕ) (d : X) → k < length xs → test (get_or xs k d) ≡ false → list_all test (drop k xs) ≡ false
all_fails test xs k d h e = ap (list_all test) (first_left xs k d h) ∙ ap (λ b. b && list_all test (drop (k + 1) xs)) e

pub all_done : {X : Type 0} (test : X → Bool) (xs : List X) (k : ℕ) → length xs ≤ k → list_all test (drop k xs) ≡ true
all_done test xs k le = ap (list_all test) (drop_all k xs le)

pub any_next : {X : Type 0} (test : X → Bool) (xs : List X) (k : ℕ) (d : X) → k < length xs → test (get_or xs k d) ≡ false
    → list_any test (drop k xs) ≡ list_any test (drop (k + 1) xs)
any_next test xs k d h e = ap (list_any test) (first_left xs k d h) ∙ ap (λ b. b || list_any test (drop (k + 1) xs)) e

pub any_passes : {X : Type 0} (test : X → Bool) (xs : List X) (k : ℕ) (d : X) → k < length xs → test (get_or xs k d) ≡ true → list_any test (drop k xs) ≡ true
any_passes test xs k d h e = ap (list_any test) (first_left xs k d h) ∙ ap (λ b. b || list_any test (drop (k + 1) xs)) e

pub any_done : {X : Type 0} (test : X → Bool) (xs : List X) (k : ℕ) → length xs ≤ k → list_any test (drop k xs) ≡ false
any_done test xs k le = ap (list_any test) (drop_all k xs le)

pub find_next : {X : Type 0} (test : X → Bool) (xs : List X) (k : ℕ) (d : X) → k < length xs → test (get_or xs k d) ≡ false
    → find test (drop k xs) ≡ find test (drop (k + 1) xs)
find_next test xs k d h e = ap (find test) (first_left xs k d h) ∙ ap (λ b. cond b (Some (get_or xs k d)) (find test (drop (k + 1) xs))) e

pub find_here : {X : Type 0} (test : X → Bool) (xs : List X) (k : ℕ) (d : X) → k < length xs → test (get_or xs k d) ≡ true
    → find test (drop k xs) ≡ Some (get_or xs k d)
find_here test xs k d h e = ap (find test) (first_left xs k d h) ∙ ap (λ b. cond b (Some (get_or xs k d)) (find test (drop (k + 1) xs))) e

pub find_none : {X : Type 0} (test : X → Bool) (xs : List X) (k : ℕ) → length xs ≤ k → find test (drop k xs) ≡ None
find_none test xs k le = ap (find test) (drop_all k xs le)
