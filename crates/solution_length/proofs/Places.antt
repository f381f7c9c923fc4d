-- How many labels are smaller than each label: summed over all labels, at most half the square of their
-- number.
use Rattle.std.proofs.Common.{◌≡◌, ◌≤◌, ◌<◌, ℕ, zero, suc, ◌+◌, ◌*◌, Bool, true, false, cond, List, [], ◌∷◌, length, Option, Some, None, refl, ap, ◌∙◌, arith}
use Rattle.std.specs.Prelude.{nat_lt}
use Rattle.std.proofs.Math.Nat.{mul-suc, suc-mul}
use Rattle.std.proofs.lemmas.Bool.Decides.{nat_tests}
use Rattle.std.proofs.lemmas.Nat.{mul-le}
use Rattle.srp_core.specs.declared.route.Route.{Route}
use Rattle.srp_core.specs.Routes.{size_of}
use Rattle.srp_core.specs.Stability.{label}

-- 1 for a label that is smaller
abbrev smaller : Option Route → ℕ → ℕ
smaller None size = 0
smaller (Some r) size = cond (nat_lt (size_of r) size) 1 0

-- how many labels are smaller
abbrev pub below : List (Option Route) → ℕ → ℕ
below [] size = 0
below (o ∷ labels) size = smaller o size + below labels size

-- the same for a label, none for one that is none
abbrev pub behind : List (Option Route) → Option Route → ℕ
behind labels None = 0
behind labels (Some r) = below labels (size_of r)

-- the same for several labels together
abbrev pub behind_all : List (Option Route) → List (Option Route) → ℕ
behind_all labels [] = 0
behind_all labels (o ∷ others) = behind labels o + behind_all labels others

smaller_more : (o : Option Route) (a b : ℕ) → a ≤ b → smaller o a ≤ smaller o b
smaller_more None a b le = omega arith
smaller_more (Some r) a b le = step (nat_lt (size_of r) a) (nat_lt (size_of r) b) refl refl
  where
    step : (x y : Bool) → nat_lt (size_of r) a ≡ x → nat_lt (size_of r) b ≡ y → cond x 1 0 ≤ cond y 1 0
    step true true e f = omega arith
    step true false e f = absurd (grind (arith, nat_tests))
    step false true e f = omega arith
    step false false e f = omega arith

below_more : (labels : List (Option Route)) (a b : ℕ) → a ≤ b → below labels a ≤ below labels b
below_more [] a b le = omega arith
below_more (o ∷ labels) a b le = omega (arith, smaller_more o a b le, below_more labels a b le)

-- a label that is smaller than one size, but not than the other
pub one_between : (labels : List (Option Route)) (u : ℕ) (r : Route) (size : ℕ) → label labels u ≡ Some r → size_of r < size
    → below labels (size_of r) + 1 ≤ below labels size
one_between [] u r size e less = cc
one_between (o ∷ labels) (suc u) r size e less = omega (arith, one_between labels u r size e less, smaller_more o (size_of r) size (omega arith))
one_between (o ∷ labels) zero r size e less =
    let here : smaller o (size_of r) ≡ 0 = ap (λ (x : Option Route). smaller x (size_of r)) e ∙ none in
    let there : smaller o size ≡ 1 = ap (λ (x : Option Route). smaller x size) e ∙ one in
    omega (arith, here, there, below_more labels (size_of r) size (omega arith))
  where
    none : smaller (Some r) (size_of r) ≡ 0
    none = (let not : nat_lt (size_of r) (size_of r) ≡ false = grind (arith, nat_tests) in rw not refl)

    one : smaller (Some r) size ≡ 1
    one = (let is : nat_lt (size_of r) size ≡ true = grind (arith, nat_tests) in rw is refl)

-- ---- all together

-- for how many of these labels the one is smaller
abbrev before_all : Option Route → List (Option Route) → ℕ
before_all o [] = 0
before_all o (x ∷ labels) = behind (o ∷ []) x + before_all o labels

behind_one : (o x : Option Route) (labels : List (Option Route)) → behind (o ∷ labels) x ≡ behind (o ∷ []) x + behind labels x
behind_one o None labels = omega arith
behind_one o (Some r) labels = omega arith

behind_more : (o : Option Route) (labels others : List (Option Route)) → behind_all (o ∷ labels) others ≡ before_all o others + behind_all labels others
behind_more o labels [] = omega arith
behind_more o labels (x ∷ others) = omega (arith, behind_one o x labels, behind_more o labels others)

-- of two labels at most one is smaller
one_of_two : (o x : Option Route) → behind (o ∷ []) x + behind (x ∷ []) o ≤ 1
one_of_two None None = omega arith
one_of_two None (Some r) = omega arith
one_of_two (Some r) None = omega arith
one_of_two (Some r) (Some s) = step (nat_lt (size_of r) (size_of s)) (nat_lt (size_of s) (size_of r)) refl refl
  where
    step : (x y : Bool) → nat_lt (size_of r) (size_of s) ≡ x → nat_lt (size_of s) (size_of r) ≡ y → cond x 1 0 + 0 + (cond y 1 0 + 0) ≤ 1
    step true true e f = absurd (grind (arith, nat_tests))
    step true false e f = omega arith
    step false true e f = omega arith
    step false false e f = omega arith

either_way : (o : Option Route) (labels : List (Option Route)) → before_all o labels + behind labels o ≤ length labels
either_way None [] = omega arith
either_way (Some r) [] = omega arith
either_way o (x ∷ labels) = omega (arith, one_of_two o x, behind_one x o labels, either_way o labels)

behind_self : (o : Option Route) → behind (o ∷ []) o ≡ 0
behind_self None = refl
behind_self (Some r) = (let not : nat_lt (size_of r) (size_of r) ≡ false = grind (arith, nat_tests) in rw not refl)

square_more : (n : ℕ) → suc n * suc n ≡ n * n + n + n + 1
square_more n = omega (arith, mul-suc (suc n) n, suc-mul n n)

twice_behind : (labels : List (Option Route)) → behind_all labels labels + behind_all labels labels ≤ length labels * length labels
twice_behind [] = omega arith
twice_behind (o ∷ labels) =
    let self = behind_self o in
    let more = behind_more o labels labels in
    let either = either_way o labels in
    omega (arith, self, behind_one o o labels, more, either, twice_behind labels, square_more (length labels))

pub few_behind : (labels : List (Option Route)) → length labels ≤ 4096 → behind_all labels labels ≤ 8388608
few_behind labels few = omega (arith, twice_behind labels, mul-le (length labels) (length labels) 4096 4096 few few)
