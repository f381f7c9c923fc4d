-- What holds of each element of a list.
use Rattle.std.proofs.Common.{◌≡◌, ℕ, zero, suc, ◌+◌, ◌≤◌, Bool, true, false, cond, List, [], ◌∷◌, ◌++◌, length, take, map, filter, Option, Some, None, refl, ap, ◌∙◌, arith, is_some}
use Rattle.std.specs.Prelude.{IfSome}
use Rattle.std.specs.List.{AllByRecursion, IsDistinct, list_all, list_any, filter_map, cons_option, find, range_with_len}
use Rattle.std.proofs.lemmas.Bool.{and_parts, or_parts}

pub all_weaker : {X : Type 0} (P Q : X → Type 0) → ((x : X) → P x → Q x) → (xs : List X) → AllByRecursion P xs → AllByRecursion Q xs
all_weaker P Q weaker [] all = tt
all_weaker P Q weaker (x ∷ xs) all = (weaker x all.0, all_weaker P Q weaker xs all.1)

pub all_push : {X : Type 0} (P : X → Type 0) (xs : List X) (x : X) → AllByRecursion P xs → P x → AllByRecursion P (xs ++ x ∷ [])
all_push P [] x all is = (is, tt)
all_push P (y ∷ ys) x all is = (all.0, all_push P ys x all.1 is)

pub all_take : {X : Type 0} (P : X → Type 0) (n : ℕ) (xs : List X) → AllByRecursion P xs → AllByRecursion P (take n xs)
all_take P zero xs all = tt
all_take P (suc n) [] all = tt
all_take P (suc n) (x ∷ xs) all = (all.0, all_take P n xs all.1)

pub all_filter : {X : Type 0} (P : X → Type 0) (test : X → Bool) (xs : List X) → AllByRecursion P xs → AllByRecursion P (filter test xs)
all_filter P test [] all = tt
all_filter P test (x ∷ xs) all = by (test x) (all_filter P test xs all.1)
  where
    by : (b : Bool) → AllByRecursion P (filter test xs) → AllByRecursion P (cond b (x ∷ filter test xs) (filter test xs))
    by true rest = (all.0, rest)
    by false rest = rest

pub all_both : {X : Type 0} (P Q R : X → Type 0) → ((x : X) → P x → Q x → R x) → (xs : List X) → AllByRecursion P xs → AllByRecursion Q xs → AllByRecursion R xs
all_both P Q R both [] ps qs = tt
all_both P Q R both (x ∷ xs) ps qs = (both x ps.0 qs.0, all_both P Q R both xs ps.1 qs.1)

-- each element passes a test
pub all_pass : {X : Type 0} (test : X → Bool) (xs : List X) → list_all test xs ≡ true → AllByRecursion (λ (x : X). test x ≡ true) xs
all_pass test [] e = tt
all_pass test (x ∷ xs) e = let both = and_parts (test x) (list_all test xs) e in (both.0, all_pass test xs both.1)

-- no element does
pub none_pass : {X : Type 0} (test : X → Bool) (xs : List X) → list_any test xs ≡ false → AllByRecursion (λ (x : X). test x ≡ false) xs
none_pass test [] e = tt
none_pass test (x ∷ xs) e = let both = or_parts (test x) (list_any test xs) e in (both.0, none_pass test xs both.1)

-- the element that is found
pub all_find : {X : Type 0} (P : X → Type 0) (test : X → Bool) (xs : List X) → AllByRecursion P xs → IfSome (find test xs) P
all_find P test [] all = tt
all_find P test (x ∷ xs) all = by (test x) (all_find P test xs all.1)
  where
    by : (b : Bool) → IfSome (find test xs) P → IfSome (cond b (Some x) (find test xs)) P
    by true rest = all.0
    by false rest = rest

-- ---- `filter_map`

one_more : {Y : Type 0} (P : Y → Type 0) (o : Option Y) (ys : List Y) → IfSome o P → AllByRecursion P ys → AllByRecursion P (cons_option o ys)
one_more P None ys is all = all
one_more P (Some y) ys is all = (is, all)

pub all_filter_map : {X Y : Type 0} (P : Y → Type 0) (f : X → Option Y) (xs : List X) → AllByRecursion (λ (x : X). IfSome (f x) P) xs →
    AllByRecursion P (filter_map f xs)
all_filter_map P f [] all = tt
all_filter_map P f (x ∷ xs) all = one_more P (f x) (filter_map f xs) all.0 (all_filter_map P f xs all.1)

longer : {Y : Type 0} (o : Option Y) (ys : List Y) → is_some o ≡ true → length (cons_option o ys) ≡ suc (length ys)
longer None ys e = absurd cc
longer (Some y) ys e = refl

-- as many as there are elements, where each gives something
pub length-filter_map : {X Y : Type 0} (f : X → Option Y) (xs : List X) → AllByRecursion (λ (x : X). is_some (f x) ≡ true) xs →
    length (filter_map f xs) ≡ length xs
length-filter_map f [] all = refl
length-filter_map f (x ∷ xs) all = longer (f x) (filter_map f xs) all.0 ∙ ap (λ (n : ℕ). suc n) (length-filter_map f xs all.1)

-- ---- a range

pub all_range : (a n : ℕ) → AllByRecursion (λ (k : ℕ). (a ≤ k) × (k + 1 ≤ a + n)) (range_with_len a n)
all_range a zero = tt
all_range a (suc n) = (
  (omega arith, omega arith),
  all_weaker (λ (k : ℕ). (a + 1 ≤ k) × (k + 1 ≤ a + 1 + n)) (λ (k : ℕ). (a ≤ k) × (k + 1 ≤ a + suc n))
      (λ k is. let low = is.0 in let high = is.1 in (omega arith, omega arith)) (range_with_len (a + 1) n) (all_range (a + 1) n),
)

-- ---- elements that differ

pub distinct_push : {X : Type 0} (same : X → X → Bool) (xs : List X) (x : X) → IsDistinct same xs → AllByRecursion (λ (y : X). same y x ≡ false) xs →
    IsDistinct same (xs ++ x ∷ [])
unfolding IsDistinct
distinct_push same [] x all differ = (tt, tt)
distinct_push same (y ∷ ys) x all differ = (all_push (λ (z : _). same y z ≡ false) ys x all.0 differ.0, distinct_push same ys x all.1 differ.1)

pub distinct_nil : {X : Type 0} (same : X → X → Bool) → IsDistinct same []
unfolding IsDistinct
distinct_nil same = tt

-- of a list, it is known by a test on what stands so far that the next one differs
pub distinct_new : {X : Type 0} (same : X → X → Bool) (xs : List X) (x : X) → IsDistinct same xs → list_any (λ (y : X). same y x) xs ≡ false →
    IsDistinct same (xs ++ x ∷ [])
distinct_new same xs x all none = distinct_push same xs x all (none_pass (λ y. same y x) xs none)

-- ---- elements with the same keys

same_all : {X K : Type 0} (key : X → K) (test : K → Bool) (xs ys : List X) → map key xs ≡ map key ys → AllByRecursion (λ (x : X). test (key x) ≡ false) ys →
    AllByRecursion (λ (x : X). test (key x) ≡ false) xs
same_all key test [] [] same all = tt
same_all key test [] (y ∷ ys) same all = tt
same_all key test (x ∷ xs) [] same all = absurd cc
same_all key test (x ∷ xs) (y ∷ ys) same all =
    (ap test (let e : key x ≡ key y = cc in e) ∙ all.0, same_all key test xs ys (let e : map key xs ≡ map key ys = cc in e) all.1)

-- elements differ as their keys do
pub distinct_keys : {X K : Type 0} (key : X → K) (same : K → K → Bool) (xs ys : List X) → map key xs ≡ map key ys →
    IsDistinct (λ (x y : X). same (key x) (key y)) ys → IsDistinct (λ (x y : X). same (key x) (key y)) xs
unfolding IsDistinct
distinct_keys key same [] [] e all = tt
distinct_keys key same [] (y ∷ ys) e all = tt
distinct_keys key same (x ∷ xs) [] e all = absurd cc
distinct_keys {X} key same (x ∷ xs) (y ∷ ys) e all =
    let first : key x ≡ key y = cc in
    let rest : map key xs ≡ map key ys = cc in
    let here : AllByRecursion (λ (z : X). same (key x) (key z) ≡ false) ys = rw first all.0 in
    (same_all key (same (key x)) xs ys rest here, distinct_keys key same xs ys rest all.1)
