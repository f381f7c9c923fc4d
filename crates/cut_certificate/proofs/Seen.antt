-- Numbers in the order in which they first stand, and their places.
use Rattle.std.proofs.Common.{◌≡◌, ◌≢◌, ℕ, zero, suc, ◌+◌, ◌<◌, ◌≤◌, Bool, true, false, ◌||◌, nat_eq, List, [], ◌∷◌, ◌++◌, length, get_or, take, drop, refl, sym, ◌∙◌, ap, subst, arith, inl, inr}
use Rattle.std.proofs.lemmas.Bool.{cases_eq, cases_Bool}
use Rattle.std.proofs.lemmas.Bool.Decides.{nat_tests}
use Rattle.std.proofs.lemmas.List.{take_more, append-nil, append_assoc, length_push}
use Rattle.std.proofs.lemmas.List.Folds.{list_any-append}
use Rattle.base_kit.specs.Sets.{has}
use Rattle.cut_certificate.specs.Blocks.{with_new, seen_after, distinct, place_among}

pub same_test : (a b : ℕ) → a ≡ b → nat_eq a b ≡ true
same_test a b e = grind (arith, nat_tests)

pub other_test : (a b : ℕ) → a ≢ b → nat_eq a b ≡ false
other_test a b ne = grind (arith, nat_tests)

pub test_same : (a b : ℕ) → nat_eq a b ≡ true → a ≡ b
test_same a b e = grind (arith, nat_tests)

pub or_true : (b : Bool) → (b || true) ≡ true
or_true true = refl
or_true false = refl

-- ---- has

pub has_left : (xs ys : List ℕ) (n : ℕ) → has xs n ≡ true → has (xs ++ ys) n ≡ true
has_left xs ys n e = list_any-append (λ other. nat_eq other n) xs ys ∙ ap (λ b. b || has ys n) e

pub has_right : (xs ys : List ℕ) (n : ℕ) → has ys n ≡ true → has (xs ++ ys) n ≡ true
has_right xs ys n e = list_any-append (λ other. nat_eq other n) xs ys ∙ ap (λ b. has xs n || b) e ∙ or_true (has xs n)

pub has_own : (n : ℕ) (ns : List ℕ) → has (n ∷ ns) n ≡ true
has_own n ns = rw (same_test n n refl) refl

pub has_at : (xs : List ℕ) (k : ℕ) → k < length xs → has xs (get_or xs k 0) ≡ true
has_at [] k inside = absurd (omega arith)
has_at (x ∷ xs) zero inside = has_own x xs
has_at (x ∷ xs) (suc k) inside = ap (λ b. nat_eq x (get_or xs k 0) || b) (has_at xs k (omega arith)) ∙ or_true (nat_eq x (get_or xs k 0))

-- ---- places

-- what stands in the front has its place there
pub place_left : (xs ys : List ℕ) (n : ℕ) → has xs n ≡ true → place_among (xs ++ ys) n ≡ place_among xs n
place_left [] ys n e = absurd cc
place_left (x ∷ xs) ys n e = by (nat_eq x n) refl (place_left xs ys n)
  where
    by : (b : Bool) → nat_eq x n ≡ b → (has xs n ≡ true → place_among (xs ++ ys) n ≡ place_among xs n) → place_among ((x ∷ xs) ++ ys) n ≡ place_among (x ∷ xs) n
    by true f rest = rw f refl
    by false f rest = rw f (ap (λ k. 1 + k) (rest (sym (rw f refl) ∙ e)))

pub place_new : (xs : List ℕ) (n : ℕ) → has xs n ≡ false → place_among (xs ++ n ∷ []) n ≡ length xs
place_new [] n e = rw (same_test n n refl) refl
place_new (x ∷ xs) n e = by (nat_eq x n) refl (place_new xs n)
  where
    by : (b : Bool) → nat_eq x n ≡ b → (has xs n ≡ false → place_among (xs ++ n ∷ []) n ≡ length xs) → place_among ((x ∷ xs) ++ n ∷ []) n ≡ suc (length xs)
    by true f rest = absurd (let g : has (x ∷ xs) n ≡ true = rw f refl in cc)
    by false f rest = rw f (ap (λ k. 1 + k) (rest (sym (rw f refl) ∙ e)) ∙ omega arith)

pub place_below : (xs : List ℕ) (n : ℕ) → has xs n ≡ true → place_among xs n < length xs
place_below [] n e = absurd cc
place_below (x ∷ xs) n e = by (nat_eq x n) refl (place_below xs n)
  where
    by : (b : Bool) → nat_eq x n ≡ b → (has xs n ≡ true → place_among xs n < length xs) → place_among (x ∷ xs) n < suc (length xs)
    by true f rest = rw f (omega arith)
    by false f rest = rw f (let below = rest (sym (rw f refl) ∙ e) in omega arith)

pub at_place : (xs : List ℕ) (n : ℕ) → has xs n ≡ true → get_or xs (place_among xs n) 0 ≡ n
at_place [] n e = absurd cc
at_place (x ∷ xs) n e = by (nat_eq x n) refl (at_place xs n)
  where
    by : (b : Bool) → nat_eq x n ≡ b → (has xs n ≡ true → get_or xs (place_among xs n) 0 ≡ n) → get_or (x ∷ xs) (place_among (x ∷ xs) n) 0 ≡ n
    by true f rest = rw f (test_same x n f)
    by false f rest = rw f (let one : 1 + place_among xs n ≡ suc (place_among xs n) = omega arith in ap (λ k. get_or (x ∷ xs) k 0) one
        ∙ rest (sym (rw f refl) ∙ e))

-- ---- what has been seen

pub with_old : (seen : List ℕ) (n : ℕ) → has seen n ≡ true → with_new seen n ≡ seen
with_old seen n e = rw e refl

pub with_next : (seen : List ℕ) (n : ℕ) → has seen n ≡ false → with_new seen n ≡ seen ++ n ∷ []
with_next seen n e = rw e refl

pub seen_twice : (seen xs ys : List ℕ) → seen_after seen (xs ++ ys) ≡ seen_after (seen_after seen xs) ys
seen_twice seen [] ys = refl
seen_twice seen (x ∷ xs) ys = seen_twice (with_new seen x) xs ys

has_with : (seen : List ℕ) (x n : ℕ) → has seen n ≡ true → has (with_new seen x) n ≡ true
has_with seen x n e = elim (cases_Bool (has seen x)) [
  | inl old ↦ ap (λ s. has s n) (with_old seen x old) ∙ e
  | inr new ↦ ap (λ s. has s n) (with_next seen x new) ∙ has_left seen (x ∷ []) n e
]

pub has_with_own : (seen : List ℕ) (x : ℕ) → has (with_new seen x) x ≡ true
has_with_own seen x = elim (cases_Bool (has seen x)) [
  | inl old ↦ ap (λ s. has s x) (with_old seen x old) ∙ old
  | inr new ↦ ap (λ s. has s x) (with_next seen x new) ∙ has_right seen (x ∷ []) x (has_own x [])
]

pub has_after : (seen xs : List ℕ) (n : ℕ) → has seen n ≡ true → has (seen_after seen xs) n ≡ true
has_after seen [] n e = e
has_after seen (x ∷ xs) n e = has_after (with_new seen x) xs n (has_with seen x n e)

-- places stay
place_with : (seen : List ℕ) (x n : ℕ) → has seen n ≡ true → place_among (with_new seen x) n ≡ place_among seen n
place_with seen x n e = elim (cases_Bool (has seen x)) [
  | inl old ↦ ap (λ s. place_among s n) (with_old seen x old)
  | inr new ↦ ap (λ s. place_among s n) (with_next seen x new) ∙ place_left seen (x ∷ []) n e
]

pub place_after : (seen xs : List ℕ) (n : ℕ) → has seen n ≡ true → place_among (seen_after seen xs) n ≡ place_among seen n
place_after seen [] n e = refl
place_after seen (x ∷ xs) n e = place_after (with_new seen x) xs n (has_with seen x n e) ∙ place_with seen x n e

-- each stands at its own place
abbrev AtOwn : List ℕ → Type 0
AtOwn seen = (k : ℕ) → k < length seen → place_among seen (get_or seen k 0) ≡ k

own_with : (seen : List ℕ) (x : ℕ) → AtOwn seen → AtOwn (with_new seen x)
own_with seen x own = elim (cases_Bool (has seen x)) [
  | inl old ↦ subst AtOwn (sym (with_old seen x old)) own
  | inr new ↦ subst AtOwn (sym (with_next seen x new)) (λ k inside. longer k inside new)
]
  where
    longer : (k : ℕ) → k < length (seen ++ x ∷ []) → has seen x ≡ false → place_among (seen ++ x ∷ []) (get_or (seen ++ x ∷ []) k 0) ≡ k
    longer k inside new = elim (cases_eq k (length seen)) [
      | inl e ↦ rw e (ap (place_among (seen ++ x ∷ [])) (last_at seen x) ∙ place_new seen x new)
      | inr ne ↦
          let less : k < length seen = omega (arith, length_push seen x) in
          ap (place_among (seen ++ x ∷ [])) (front_at seen (x ∷ []) k less) ∙ place_left seen (x ∷ []) (get_or seen k 0) (has_at seen k less) ∙ own k less
    ]
      where
        last_at : (seen : List ℕ) (x : ℕ) → get_or (seen ++ x ∷ []) (length seen) 0 ≡ x
        last_at [] x = refl
        last_at (y ∷ seen) x = last_at seen x

        front_at : (seen ys : List ℕ) (k : ℕ) → k < length seen → get_or (seen ++ ys) k 0 ≡ get_or seen k 0
        front_at [] ys k h = absurd (omega arith)
        front_at (y ∷ seen) ys zero h = refl
        front_at (y ∷ seen) ys (suc k) h = front_at seen ys k (omega arith)

own_after : (seen xs : List ℕ) → AtOwn seen → AtOwn (seen_after seen xs)
own_after seen [] own = own
own_after seen (x ∷ xs) own = own_after (with_new seen x) xs (own_with seen x own)

-- only what was given has been seen
only_with : (seen : List ℕ) (x n : ℕ) → has (with_new seen x) n ≡ true → has (seen ++ x ∷ []) n ≡ true
only_with seen x n e = elim (cases_Bool (has seen x)) [
  | inl old ↦ has_left seen (x ∷ []) n (sym (ap (λ s. has s n) (with_old seen x old)) ∙ e)
  | inr new ↦ sym (ap (λ s. has s n) (with_next seen x new)) ∙ e
]

has_split : (xs ys : List ℕ) (n : ℕ) (b : Bool) → has xs n ≡ b → has (xs ++ ys) n ≡ true → (zs : List ℕ) → ((m : ℕ) → m ≡ n → has xs m ≡ true → has zs m ≡ true)
    → ((m : ℕ) → m ≡ n → has ys m ≡ true → has zs m ≡ true) → has zs n ≡ true
has_split xs ys n true e both zs left right = left n refl e
has_split xs ys n false e both zs left right = right n refl (sym (list_any-append (λ other. nat_eq other n) xs ys ∙ ap (λ b. b || has ys n) e) ∙ both)

only_after : (seen xs : List ℕ) (n : ℕ) → has (seen_after seen xs) n ≡ true → has (seen ++ xs) n ≡ true
only_after seen [] n e = ap (λ s. has s n) (append-nil seen) ∙ e
only_after seen (x ∷ xs) n e =
    let further = only_after (with_new seen x) xs n e in
    has_split (with_new seen x) xs n (has (with_new seen x) n) refl further (seen ++ x ∷ xs)
    (λ m same h. ap (λ s. has s m) (sym (append_assoc seen (x ∷ []) xs)) ∙ has_left (seen ++ x ∷ []) xs m (only_with seen x m h))
    (λ m same h. has_right seen (x ∷ xs) m (has_right (x ∷ []) xs m h))

-- ---- distinct numbers

pub distinct_has : (ns : List ℕ) (k : ℕ) → k < length ns → has (distinct ns) (get_or ns k 0) ≡ true
unfolding distinct
distinct_has ns k inside = all [] ns k inside
  where
    all : (seen ns : List ℕ) (k : ℕ) → k < length ns → has (seen_after seen ns) (get_or ns k 0) ≡ true
    all seen [] k inside = absurd (omega arith)
    all seen (n ∷ ns) zero inside = has_after (with_new seen n) ns n (has_with_own seen n)
    all seen (n ∷ ns) (suc k) inside = all (with_new seen n) ns k (omega arith)

pub distinct_only : (ns : List ℕ) (n : ℕ) → has (distinct ns) n ≡ true → has ns n ≡ true
unfolding distinct
distinct_only ns n e = only_after [] ns n e

pub distinct_own : (ns : List ℕ) (k : ℕ) → k < length (distinct ns) → place_among (distinct ns) (get_or (distinct ns) k 0) ≡ k
unfolding distinct
distinct_own ns k inside = own_after [] ns (λ j h. absurd (omega arith)) k inside

-- ---- the first places

abbrev pub front : List ℕ → ℕ → List ℕ
front keys i = seen_after [] (take i keys)

pub front_next : (keys : List ℕ) (i key : ℕ) → i < length keys → key ≡ get_or keys i 0 → front keys (i + 1) ≡ with_new (front keys i) key
front_next keys i key inside is = ap (seen_after []) (take_more keys i 0 inside) ∙ seen_twice [] (take i keys) (get_or keys i 0 ∷ [])
    ∙ ap (with_new (front keys i)) (sym is)

pub front_all : (keys : List ℕ) (i : ℕ) → length keys ≤ i → front keys i ≡ distinct keys
unfolding distinct
front_all keys i le = ap (seen_after []) (take_whole i keys le)
  where
    take_whole : (i : ℕ) (xs : List ℕ) → length xs ≤ i → take i xs ≡ xs
    take_whole zero [] h = refl
    take_whole (suc i) [] h = refl
    take_whole zero (x ∷ xs) h = absurd (omega arith)
    take_whole (suc i) (x ∷ xs) h = ap (λ (ys : List ℕ). x ∷ ys) (take_whole i xs (omega arith))

pub front_place : (keys : List ℕ) (i n : ℕ) → has (front keys i) n ≡ true → place_among (distinct keys) n ≡ place_among (front keys i) n
unfolding distinct
front_place keys i n e = ap (λ s. place_among s n) (ap (seen_after []) (sym (cut i keys)) ∙ seen_twice [] (take i keys) (drop i keys))
    ∙ place_after (front keys i) (drop i keys) n e
  where
    cut : (i : ℕ) (xs : List ℕ) → take i xs ++ drop i xs ≡ xs
    cut zero xs = refl
    cut (suc i) [] = refl
    cut (suc i) (x ∷ xs) = ap (λ (ys : List ℕ). x ∷ ys) (cut i xs)
