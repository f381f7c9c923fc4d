-- Items put into their places, and lists of which one is changed.
use Rattle.std.proofs.Common.{◌≡◌, ℕ, ◌≤◌, Bool, true, false, List, [], ◌∷◌, ◌++◌, length, map, refl, sym, ap, ◌∙◌, arith}
use Rattle.std.specs.Prelude.{nat_lt, ◌==◌, if◌then◌else◌}
use Rattle.std.specs.List.{AllByRecursion, IsDistinct, list_any}
use Rattle.std.proofs.lemmas.Bool.{or_parts, eqb-false, ne_eqb}
use Rattle.base_kit.specs.Sets.{with_number, IsAscending}
use Rattle.base_kit.proofs.Members.{ascending_with}
use Rattle.cfg_ast.specs.text.PolicyLines.{changed_or_new, put_before}
use Rattle.given_laws.proofs.Each.{distinct_keys}

-- ---- one more at the end

pub push_some : {X : Type 0} (xs : List X) (x : X) → 1 ≤ length (xs ++ x ∷ [])
push_some [] x = omega arith
push_some (y ∷ ys) x = omega arith

-- ---- one more in its place

pub put_all : {X : Type 0} (P : X → Type 0) (is_later : X → Bool) (x : X) (xs : List X) → P x → AllByRecursion P xs →
    AllByRecursion P (put_before is_later x xs)
unfolding put_before
put_all P is_later x [] is all = (is, tt)
put_all P is_later x (y ∷ ys) is all = by (is_later y) (put_all P is_later x ys is all.1)
  where
    by : (b : Bool) → AllByRecursion P (put_before is_later x ys) → AllByRecursion P (if b then x ∷ y ∷ ys else y ∷ put_before is_later x ys)
    by true rest = (is, all)
    by false rest = (all.0, rest)

pub put_some : {X : Type 0} (is_later : X → Bool) (x : X) (xs : List X) → 1 ≤ length (put_before is_later x xs)
unfolding put_before
put_some is_later x [] = omega arith
put_some is_later x (y ∷ ys) = by (is_later y)
  where
    by : (b : Bool) → 1 ≤ length (if b then x ∷ y ∷ ys else y ∷ put_before is_later x ys)
    by true = omega arith
    by false = omega arith

-- the numbers are those that a set gets
put_step : {X : Type 0} (number : X → ℕ) (x y : X) (ys : List X) → (number y == number x) ≡ false →
    map number (put_before (λ (z : X). nat_lt (number x) (number z)) x ys) ≡ with_number (number x) (map number ys)
    → (b : Bool) → nat_lt (number x) (number y) ≡ b →
    map number (put_before (λ (z : X). nat_lt (number x) (number z)) x (y ∷ ys)) ≡ with_number (number x) (number y ∷ map number ys)
unfolding put_before
put_step number x y ys other rest true less = rw less refl
put_step number x y ys other rest false less =
    let not : (number x == number y) ≡ false = ne_eqb (number x) (number y) (λ same. eqb-false (number y) (number x) other (sym same)) in
    rw (less, not) (ap (λ (ks : List ℕ). number y ∷ ks) rest)

put_numbers : {X : Type 0} (number : X → ℕ) (x : X) (xs : List X) → list_any (λ (z : X). number z == number x) xs ≡ false →
    map number (put_before (λ (z : X). nat_lt (number x) (number z)) x xs) ≡ with_number (number x) (map number xs)
unfolding put_before
put_numbers number x [] none = refl
put_numbers number x (y ∷ ys) none =
    let both = or_parts (number y == number x) (list_any (λ z. number z == number x) ys) none in
    put_step number x y ys both.0 (put_numbers number x ys both.1) (nat_lt (number x) (number y)) refl

pub put_ascending : {X : Type 0} (number : X → ℕ) (x : X) (xs : List X) → list_any (λ (z : X). number z == number x) xs ≡ false → IsAscending (map number xs) →
    IsAscending (map number (put_before (λ (z : X). nat_lt (number x) (number z)) x xs))
put_ascending number x xs none up = rw (put_numbers number x xs none) (ascending_with (number x) (map number xs) up)

-- ---- one changed, or a new one

pub changed_all : {X : Type 0} (P Q : X → Type 0) (is_it : X → Bool) (change : X → X) (new : X) (xs : List X) → ((x : X) → Q x → P x) →
    ((x : X) → is_it x ≡ true → Q x → P (change x)) → P new → AllByRecursion Q xs → AllByRecursion P (changed_or_new is_it change new xs)
unfolding changed_or_new
changed_all P Q is_it change new [] stays changes is all = (is, tt)
changed_all {X} P Q is_it change new (x ∷ xs) stays changes is all = by (is_it x) refl (changed_all P Q is_it change new xs stays changes is all.1)
  where
    others : (ys : List X) → AllByRecursion Q ys → AllByRecursion P ys
    others [] all = tt
    others (y ∷ ys) all = (stays y all.0, others ys all.1)

    by : (b : Bool) → is_it x ≡ b → AllByRecursion P (changed_or_new is_it change new xs) →
        AllByRecursion P (if b then change x ∷ xs else x ∷ changed_or_new is_it change new xs)
    by true here rest = (changes x here all.0, others xs all.1)
    by false here rest = (stays x all.0, rest)

-- names stay apart, where the change keeps the name and a new one comes only if there is none of its name
pub changed_distinct : {X K : Type 0} (key : X → K) (same : K → K → Bool) (change : X → X) (new : X) → ((x : X) → key (change x) ≡ key x) → (xs : List X) →
    IsDistinct (λ (x y : X). same (key x) (key y)) xs
    → IsDistinct (λ (x y : X). same (key x) (key y)) (changed_or_new (λ (x : X). same (key x) (key new)) change new xs)
unfolding changed_or_new IsDistinct
changed_distinct key same change new keeps [] all = (tt, tt)
changed_distinct {X} key same change new keeps (x ∷ xs) all = by (same (key x) (key new)) refl (changed_distinct key same change new keeps xs all.1)
  where
    by : (b : Bool) → same (key x) (key new) ≡ b →
        IsDistinct (λ (y z : X). same (key y) (key z)) (changed_or_new (λ (y : X). same (key y) (key new)) change new xs)
        → IsDistinct (λ (y z : X). same (key y) (key z)) (if b then change x ∷ xs else x ∷ changed_or_new (λ (y : X). same (key y) (key new)) change new xs)
    by true here rest = distinct_keys key same (change x ∷ xs) (x ∷ xs) (ap (λ (k : _). k ∷ map key xs) (keeps x)) all
    by false here rest = (
      changed_all (λ (y : X). same (key x) (key y) ≡ false) (λ (y : X). same (key x) (key y) ≡ false) (λ (y : X). same (key y) (key new)) change new xs
          (λ y is. is) (λ y it is. ap (same (key x)) (keeps y) ∙ is) here all.0,
      rest,
    )
