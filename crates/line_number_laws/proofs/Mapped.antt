-- Functions of lists whose items were changed only in what the functions do not read.
use Rattle.std.proofs.Common.{◌≡◌, ℕ, zero, suc, ◌+◌, Bool, true, false, cond, not, List, [], ◌∷◌, Option, Some, None, map, filter, refl, sym, ap, ◌∙◌}
use Rattle.std.specs.Prelude.{find, filter_map, flat_map}
use Rattle.std.specs.Option.{option_map}
use Rattle.std.specs.List.{list_any, list_all, enumerate_from, cons_option}
use Rattle.std.proofs.lemmas.List.{map-append}
use Rattle.std.proofs.lemmas.List.Concat.{flat_map-cons}
use Rattle.cfg_ast.specs.meaning.RouterFaults.{repeats_after, repeats, unlike_first, first_beyond}

pub any_mapped : {A B : Type 0} (h : A → B) (f : B → Bool) (g : A → Bool) → ((x : A) → f (h x) ≡ g x) → (xs : List A) → list_any f (map h xs) ≡ list_any g xs
any_mapped h f g same [] = refl
any_mapped h f g same (x ∷ xs) = rw (same x, any_mapped h f g same xs) refl

-- two tests that say the same
pub any_alike : {A : Type 0} (f g : A → Bool) → ((x : A) → f x ≡ g x) → (xs : List A) → list_any f xs ≡ list_any g xs
any_alike f g same [] = refl
any_alike f g same (x ∷ xs) = rw (same x, any_alike f g same xs) refl

pub all_alike : {A : Type 0} (f g : A → Bool) → ((x : A) → f x ≡ g x) → (xs : List A) → list_all f xs ≡ list_all g xs
all_alike f g same [] = refl
all_alike f g same (x ∷ xs) = rw (same x, all_alike f g same xs) refl

pub map_mapped : {A B C : Type 0} (h : A → B) (f : B → C) (g : A → C) → ((x : A) → f (h x) ≡ g x) → (xs : List A) → map f (map h xs) ≡ map g xs
map_mapped h f g same [] = refl
map_mapped h f g same (x ∷ xs) = rw (same x, map_mapped h f g same xs) refl

-- one item, kept or not
pub kept_mapped : {A B : Type 0} (h : A → B) (b : Bool) (x : A) (xs : List A) → cond b (h x ∷ map h xs) (map h xs) ≡ map h (cond b (x ∷ xs) xs)
kept_mapped h true x xs = refl
kept_mapped h false x xs = refl

pub filter_mapped : {A B : Type 0} (h : A → B) (f : B → Bool) (g : A → Bool) → ((x : A) → f (h x) ≡ g x) → (xs : List A) →
    filter f (map h xs) ≡ map h (filter g xs)
filter_mapped h f g same [] = refl
filter_mapped h f g same (x ∷ xs) = rw (same x, filter_mapped h f g same xs) (kept_mapped h (g x) x (filter g xs))

pub found_mapped : {A B : Type 0} (h : A → B) (b : Bool) (x : A) (o : Option A) → cond b (Some (h x)) (option_map h o) ≡ option_map h (cond b (Some x) o)
found_mapped h true x o = refl
found_mapped h false x o = refl

pub find_mapped : {A B : Type 0} (h : A → B) (f : B → Bool) (g : A → Bool) → ((x : A) → f (h x) ≡ g x) → (xs : List A) →
    find f (map h xs) ≡ option_map h (find g xs)
find_mapped h f g same [] = refl
find_mapped h f g same (x ∷ xs) = rw (same x, find_mapped h f g same xs) (found_mapped h (g x) x (find g xs))

cons_mapped : {C D : Type 0} (k : C → D) (o : Option C) (ys : List C) → cons_option (option_map k o) (map k ys) ≡ map k (cons_option o ys)
cons_mapped k None ys = refl
cons_mapped k (Some y) ys = refl

pub filter_map_mapped : {A B C D : Type 0} (h : A → B) (k : C → D) (f : B → Option D) (g : A → Option C) → ((x : A) → f (h x) ≡ option_map k (g x)) →
    (xs : List A) → filter_map f (map h xs) ≡ map k (filter_map g xs)
filter_map_mapped h k f g same [] = refl
filter_map_mapped h k f g same (x ∷ xs) = rw (same x, filter_map_mapped h k f g same xs) (cons_mapped k (g x) (filter_map g xs))

pub flat_mapped : {A B C D : Type 0} (h : A → B) (k : C → D) (f : B → List D) (g : A → List C) → ((x : A) → f (h x) ≡ map k (g x)) → (xs : List A) →
    flat_map f (map h xs) ≡ map k (flat_map g xs)
flat_mapped h k f g same [] = refl
flat_mapped h k f g same (x ∷ xs) =
    flat_map-cons f (h x) (map h xs)
    ∙ rw (same x, flat_mapped h k f g same xs) (sym (map-append k (g x) (flat_map g xs)))
    ∙ ap (map k) (sym (flat_map-cons g x xs))

abbrev pub at_place : {A B : Type 0} → (A → B) → ℕ × A → ℕ × B
at_place h (i, x) = (i, h x)

pub enumerate_mapped : {A B : Type 0} (h : A → B) (n : ℕ) (xs : List A) → enumerate_from n (map h xs) ≡ map (at_place h) (enumerate_from n xs)
enumerate_mapped h n [] = refl
enumerate_mapped h n (x ∷ xs) = ap (λ ys. (n, h x) ∷ ys) (enumerate_mapped h (n + 1) xs)

pub repeats_after_mapped : {A B : Type 0} (h : A → B) (f : B → B → Bool) (g : A → A → Bool) → ((x y : A) → f (h x) (h y) ≡ g x y) → (past xs : List A) →
    repeats_after f (map h past) (map h xs) ≡ map h (repeats_after g past xs)
repeats_after_mapped h f g same past [] = refl
repeats_after_mapped h f g same past (x ∷ xs) =
    rw (any_mapped h (f (h x)) (g x) (same x) past, repeats_after_mapped h f g same (x ∷ past) xs)
    (kept_mapped h (list_any (g x) past) x (repeats_after g (x ∷ past) xs))

pub repeats_mapped : {A B : Type 0} (h : A → B) (f : B → B → Bool) (g : A → A → Bool) → ((x y : A) → f (h x) (h y) ≡ g x y) → (xs : List A) →
    repeats f (map h xs) ≡ map h (repeats g xs)
repeats_mapped h f g same xs = repeats_after_mapped h f g same [] xs

pub unlike_mapped : {A B : Type 0} (h : A → B) (f : B → B → Bool) (g : A → A → Bool) → ((x y : A) → f (h x) (h y) ≡ g x y) → (xs : List A) →
    unlike_first f (map h xs) ≡ map h (unlike_first g xs)
unlike_mapped h f g same [] = refl
unlike_mapped h f g same (x ∷ xs) = filter_mapped h (λ y. not (f (h x) y)) (λ y. not (g x y)) (λ y. ap not (same x y)) xs

pub beyond_mapped : {A B : Type 0} (h : A → B) (limit : ℕ) (xs : List A) → first_beyond limit (map h xs) ≡ map h (first_beyond limit xs)
beyond_mapped h limit [] = refl
beyond_mapped h zero (x ∷ xs) = refl
beyond_mapped h (suc limit) (x ∷ xs) = beyond_mapped h limit xs
