-- The place of the first item of a list that passes a test. Public: crates above cite these lemmas.
use Rattle.std.proofs.Common.{◌≡◌, ℕ, suc, ◌+◌, ◌<◌, ◌≤◌, Bool, true, false, cond, not, ◌||◌, List, [], ◌∷◌, ◌++◌, length, map, get_or, Option, Some, None, refl, sym, ap, ◌∙◌, arith, true≢false}
use Rattle.std.specs.Prelude.{is_some, nat_eq, nat_lt, bytes_eq}
use Rattle.std.proofs.Math.ListN.{set}
use Rattle.std.specs.List.{list_any, position, position_or_len}
use Rattle.std.proofs.lemmas.Bool.Decides.{nat_tests}
use Rattle.std.proofs.lemmas.Grind.{common_steps}
use Rattle.std.proofs.lemmas.List.{length_push, length-map, map-set, set-get_or, get_or-map}
use Rattle.std.proofs.lemmas.List.Folds.{list_any-append}
use Rattle.std.proofs.lemmas.Slice.Eq.{bytes_eq-Decides}

-- ---- one more

or_last : (b c : Bool) → cond b true c ≡ (c || (b || false))
or_last true true = refl
or_last true false = refl
or_last false true = refl
or_last false false = refl

pub any_last : {X : Type 0} (test : X → Bool) (xs : List X) (x : X) → cond (test x) true (list_any test xs) ≡ list_any test (xs ++ x ∷ [])
any_last test xs x = or_last (test x) (list_any test xs) ∙ sym (list_any-append test xs (x ∷ []))

first_none : {X : Type 0} (test : X → Bool) (x : X) (b : Bool) → test x ≡ b → position_or_len test (x ∷ []) ≡ 0 + cond (test x) 0 1
first_none test x true e = rw e refl
first_none test x false e = rw e refl

first_by : {X : Type 0} (test : X → Bool) (y : X) (ys : List X) (x : X) →
    position_or_len test (ys ++ x ∷ []) ≡ cond (nat_lt (position_or_len test ys) (length ys)) (position_or_len test ys) (length ys + cond (test x) 0 1)
    → (b : Bool) → test y ≡ b → position_or_len test (y ∷ ys ++ x ∷ []) ≡ cond (nat_lt (position_or_len test (y ∷ ys)) (length (y ∷ ys)))
    (position_or_len test (y ∷ ys)) (length (y ∷ ys) + cond (test x) 0 1)
first_by test y ys x rest true e =
    let there : nat_lt 0 (suc (length ys)) ≡ true = grind (arith, nat_tests) in
    rw e (sym (ap (λ b. cond b 0 (suc (length ys) + cond (test x) 0 1)) there))
first_by test y ys x rest false e = rw e (grind (arith, nat_tests, rest))

pub first_last : {X : Type 0} (test : X → Bool) (xs : List X) (x : X) →
    position_or_len test (xs ++ x ∷ []) ≡ cond (nat_lt (position_or_len test xs) (length xs)) (position_or_len test xs) (length xs + cond (test x) 0 1)
first_last test [] x = first_none test x (test x) refl
first_last test (y ∷ ys) x = first_by test y ys x (first_last test ys x) (test y) refl

pub position_new : {X : Type 0} (test : X → Bool) (xs : List X) (x : X) → position test xs ≡ None → test x ≡ true →
    position test (xs ++ x ∷ []) ≡ Some (length xs)
position_new test xs x none here =
    let first = first_last test xs x in
    let longer = length_push xs x in
    grind (arith, nat_tests, first, longer)

pub position_old : {X : Type 0} (test : X → Bool) (xs : List X) (x : X) → test x ≡ false → position test (xs ++ x ∷ []) ≡ position test xs
position_old test xs x other =
    let first = first_last test xs x in
    let longer = length_push xs x in
    grind (arith, nat_tests, first, longer)

pub position_kept : {X : Type 0} (test : X → Bool) (xs : List X) (x : X) → is_some (position test xs) ≡ true → position test (xs ++ x ∷ []) ≡ position test xs
position_kept test xs x there =
    let first = first_last test xs x in
    let longer = length_push xs x in
    grind (arith, nat_tests, first, longer)

pub place_by : {X : Type 0} (test : X → Bool) (xs : List X) (x : X) (b : Bool) → test x ≡ b → (b ≡ true → position test xs ≡ None) →
    cond b (Some (length xs)) (position test xs) ≡ position test (xs ++ x ∷ [])
place_by test xs x true e new = sym (position_new test xs x (new refl) e)
place_by test xs x false e new = sym (position_old test xs x e)

pub bytes_same : (xs ys : List ℕ) → bytes_eq xs ys ≡ true → xs ≡ ys
bytes_same xs ys e = (bytes_eq-Decides xs ys).0 e

-- ---- what a position says

some_if : (b : Bool) (n : ℕ) → is_some (cond b (Some n) None) ≡ b
some_if true n = refl
some_if false n = refl

some_by : {X : Type 0} (test : X → Bool) (y : X) (ys : List X) → list_any test ys ≡ is_some (position test ys) → (b : Bool) → test y ≡ b →
    list_any test (y ∷ ys) ≡ is_some (position test (y ∷ ys))
some_by test y ys rest true e =
    let there : nat_lt 0 (suc (length ys)) ≡ true = grind (arith, nat_tests) in
    rw e (sym (some_if (nat_lt 0 (suc (length ys))) 0 ∙ there))
some_by test y ys rest false e =
    let p = position_or_len test ys in
    let next : nat_lt (1 + p) (suc (length ys)) ≡ nat_lt p (length ys) = grind (arith, nat_tests) in
    ap (λ b. b || list_any test ys) e ∙ rest ∙ some_if (nat_lt p (length ys)) p ∙ sym next ∙ sym (some_if (nat_lt (1 + p) (suc (length ys))) (1 + p))
    ∙ sym (ap (λ b. let n : ℕ = cond (not b) (1 + p) 0 in is_some (cond (nat_lt n (suc (length ys))) (Some n) None)) e)

pub any_some : {X : Type 0} (test : X → Bool) (xs : List X) → list_any test xs ≡ is_some (position test xs)
any_some test [] = refl
any_some test (y ∷ ys) = some_by test y ys (any_some test ys) (test y) refl

map_by : {X Z : Type 0} (test : Z → Bool) (f : X → Z) (y : X) (ys : List X) → position_or_len test (map f ys) ≡ position_or_len (λ x. test (f x)) ys →
    (b : Bool) → test (f y) ≡ b → position_or_len test (map f (y ∷ ys)) ≡ position_or_len (λ x. test (f x)) (y ∷ ys)
map_by test f y ys rest true e = rw e refl
map_by test f y ys rest false e = rw e (ap (λ (n : ℕ). 1 + n) rest)

first_map : {X Z : Type 0} (test : Z → Bool) (f : X → Z) (xs : List X) → position_or_len test (map f xs) ≡ position_or_len (λ x. test (f x)) xs
first_map test f [] = refl
first_map test f (y ∷ ys) = map_by test f y ys (first_map test f ys) (test (f y)) refl

pub position_map : {X Z : Type 0} (test : Z → Bool) (f : X → Z) (xs : List X) → position test (map f xs) ≡ position (λ x. test (f x)) xs
position_map test f xs =
    ap (λ (n : ℕ). cond (nat_lt n (length (map f xs))) (Some n) None) (first_map test f xs)
    ∙ ap (λ (n : ℕ). cond (nat_lt (position_or_len (λ x. test (f x)) xs) n) (Some (position_or_len (λ x. test (f x)) xs)) None) (length-map xs f)

pub none_by : (o : Option ℕ) → is_some o ≡ false → o ≡ None
none_by None e = refl
none_by (Some n) e = absurd (true≢false e)

pub all_of : {X : Type 0} (test : X → Bool) (xs : List X) → position test xs ≡ None → length xs ≤ position_or_len test xs
all_of test xs none = grind (arith, common_steps, nat_tests)

-- ---- an item changed in its place, of which a part stays

pub parts_kept : {X Z : Type 0} (f : X → Z) (xs : List X) (i : ℕ) (x d : X) → i < length xs → f x ≡ f (get_or xs i d) → map f (set xs i x) ≡ map f xs
parts_kept f xs i x d lt same = map-set f xs i x ∙ ap (set (map f xs) i) (same ∙ sym (get_or-map f xs i d (f d) lt)) ∙ set-get_or (map f xs) i (f d)

pub position_by : {X Z : Type 0} (test : Z → Bool) (f : X → Z) (xs ys : List X) → map f xs ≡ map f ys →
    position (λ x. test (f x)) xs ≡ position (λ x. test (f x)) ys
position_by test f xs ys same = sym (position_map test f xs) ∙ ap (position test) same ∙ position_map test f ys

-- ---- tests that say the same

pub number_is : (j k : ℕ) → nat_eq j k ≡ true → j ≡ k
number_is j k e = grind (arith, nat_tests)

pub any_same : {X : Type 0} (p q : X → Bool) → ((x : X) → p x ≡ q x) → (xs : List X) → list_any p xs ≡ list_any q xs
any_same p q same [] = refl
any_same p q same (x ∷ xs) = rw (same x, any_same p q same xs) refl

first_same : {X : Type 0} (p q : X → Bool) → ((x : X) → p x ≡ q x) → (xs : List X) → position_or_len p xs ≡ position_or_len q xs
first_same p q same [] = refl
first_same p q same (x ∷ xs) = rw (same x, first_same p q same xs) refl

pub position_same : {X : Type 0} (p q : X → Bool) → ((x : X) → p x ≡ q x) → (xs : List X) → position p xs ≡ position q xs
position_same p q same xs = ap (λ (n : ℕ). cond (nat_lt n (length xs)) (Some n) None) (first_same p q same xs)

pub bytes_eq-sym : (xs ys : List ℕ) → bytes_eq xs ys ≡ bytes_eq ys xs
bytes_eq-sym [] [] = refl
bytes_eq-sym [] (y ∷ ys) = refl
bytes_eq-sym (x ∷ xs) [] = refl
bytes_eq-sym (x ∷ xs) (y ∷ ys) = rw (number_sym x y, bytes_eq-sym xs ys) refl
  where
    number_sym : (j k : ℕ) → nat_eq j k ≡ nat_eq k j
    number_sym j k = grind (arith, nat_tests)
