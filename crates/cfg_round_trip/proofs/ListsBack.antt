-- The printed lines of lists and route maps are read back, list by list.
use Rattle.std.proofs.Common.{◌≡◌, ℕ, ◌<◌, Bool, true, false, ◌&&◌, List, [], ◌∷◌, ◌++◌, map, refl, arith}
use Rattle.std.specs.Prelude.{bytes_eq, nat_lt, ◌==◌}
use Rattle.std.specs.List.{AllByRecursion, list_any}
use Rattle.std.proofs.lemmas.Bool.{or_parts, or_from, and_left, and_right, ne_eqb, le-ltb}
use Rattle.std.proofs.lemmas.Slice.Eq.{bytes_eq-Decides}
use Rattle.base_kit.specs.Sets.{AllAbove}
use Rattle.cfg_ast.specs.text.PolicyLines.{changed_or_new, put_before}

-- ---- one item changed, or a new one

-- where no item is the one, a new one stands last
pub new_last : {X : Type 0} (is_it : X → Bool) (change : X → X) (new : X) (xs : List X) → list_any is_it xs ≡ false → changed_or_new is_it change new xs ≡ xs
    ++ new ∷ []
unfolding changed_or_new
new_last is_it change new [] none = refl
new_last is_it change new (x ∷ xs) none = let both = or_parts (is_it x) (list_any is_it xs) none in rw (both.0, new_last is_it change new xs both.1) refl

-- where the last item is the one, it is changed
pub change_last : {X : Type 0} (is_it : X → Bool) (change : X → X) (new : X) (xs : List X) (x : X) → list_any is_it xs ≡ false → is_it x ≡ true →
    changed_or_new is_it change new (xs ++ x ∷ []) ≡ xs ++ change x ∷ []
unfolding changed_or_new
change_last is_it change new [] x none here = rw here refl
change_last is_it change new (y ∷ ys) x none here = let both = or_parts (is_it y) (list_any is_it ys) none in
    rw (both.0, change_last is_it change new ys x both.1 here) refl

-- where no item comes later, one more stands last
pub put_last : {X : Type 0} (is_later : X → Bool) (x : X) (xs : List X) → list_any is_later xs ≡ false → put_before is_later x xs ≡ xs ++ x ∷ []
unfolding put_before
put_last is_later x [] none = refl
put_last is_later x (y ∷ ys) none = let both = or_parts (is_later y) (list_any is_later ys) none in rw (both.0, put_last is_later x ys both.1) refl

-- ---- numbers that ascend

-- each number done is below each one to come
abbrev pub AreBelow : {X : Type 0} → (X → ℕ) → List X → List X → Type 0
AreBelow {X} number done ys = AllByRecursion (λ (y : X). AllByRecursion (λ (x : X). number x < number y) done) ys

pub below_none : {X : Type 0} (number : X → ℕ) (ys : List X) → AreBelow number [] ys
below_none number [] = tt
below_none number (y ∷ ys) = (tt, below_none number ys)

push_below : {X : Type 0} (number : X → ℕ) (n : ℕ) (done : List X) (x : X) → AllByRecursion (λ (z : X). number z < n) done → number x < n →
    AllByRecursion (λ (z : X). number z < n) (done ++ x ∷ [])
push_below number n [] x all less = (less, tt)
push_below number n (z ∷ done) x all less = (all.0, push_below number n done x all.1 less)

pub below_more : {X : Type 0} (number : X → ℕ) (done : List X) (x : X) (ys : List X) → AreBelow number done ys → AllAbove (number x) (map number ys) →
    AreBelow number (done ++ x ∷ []) ys
below_more number done x [] below above = tt
below_more number done x (y ∷ ys) below above = (push_below number (number y) done x below.0 above.0, below_more number done x ys below.1 above.1)

pub none_later : {X : Type 0} (number : X → ℕ) (n : ℕ) (done : List X) → AllByRecursion (λ (z : X). number z < n) done →
    list_any (λ (z : X). nat_lt n (number z)) done ≡ false
none_later number n [] all = refl
none_later number n (z ∷ done) all = or_from (nat_lt n (number z)) (list_any (λ z. nat_lt n (number z)) done)
    (let less = all.0 in le-ltb n (number z) (omega arith)) (none_later number n done all.1)

pub none_same : {X : Type 0} (number : X → ℕ) (n : ℕ) (done : List X) → AllByRecursion (λ (z : X). number z < n) done →
    list_any (λ (z : X). number z == n) done ≡ false
none_same number n [] all = refl
none_same number n (z ∷ done) all = or_from (number z == n) (list_any (λ z. number z == n) done) (let less = all.0 in ne_eqb (number z) n (λ e. omega arith))
    (none_same number n done all.1)

-- ---- names and numbers

-- no list has the name, so none has it and the number
pub no_name_no_number : {X : Type 0} (named has : X → Bool) (xs : List X) → list_any named xs ≡ false → list_any (λ (x : X). named x && has x) xs ≡ false
no_name_no_number named has [] none = refl
no_name_no_number named has (x ∷ xs) none =
    let both = or_parts (named x) (list_any named xs) none in
    or_from (named x && has x) (list_any (λ x. named x && has x) xs) (and_left (named x) (has x) both.0) (no_name_no_number named has xs both.1)

-- nor where the last one has the name without the number
pub last_no_number : {X : Type 0} (named has : X → Bool) (xs : List X) (x : X) → list_any named xs ≡ false → has x ≡ false →
    list_any (λ (y : X). named y && has y) (xs ++ x ∷ []) ≡ false
last_no_number named has [] x none without = or_from (named x && has x) false (and_right (named x) (has x) without) refl
last_no_number named has (y ∷ ys) x none without =
    let both = or_parts (named y) (list_any named ys) none in
    or_from (named y && has y) _ (and_left (named y) (has y) both.0) (last_no_number named has ys x both.1 without)

pub same_bytes : (name : List ℕ) → bytes_eq name name ≡ true
same_bytes name = (bytes_eq-Decides name name).1 refl
