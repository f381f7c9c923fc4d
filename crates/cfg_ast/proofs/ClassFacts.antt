-- A class is that of each of its members, and its prefixes ascend.
use Rattle.std.proofs.Common.{◌≡◌, ℕ, Bool, true, false, ◌&&◌, List, [], ◌∷◌, Option, Some, None, refl, sym, ◌∙◌, ap, arith, true≢false}
use Rattle.std.specs.Prelude.{filter, flat_map, nat_eq}
use Rattle.std.specs.Option.{option_eq}
use Rattle.std.specs.Bool.{beq}
use Rattle.std.proofs.lemmas.Bool.Decides.{nat_tests}
use Rattle.base_kit.specs.Prefixes.{Prefix}
use Rattle.cfg_ast.specs.declared.classes.DestClass.{DestClass}
use Rattle.cfg_ast.specs.declared.classes.Origin.{Origin}
use Rattle.cfg_ast.specs.declared.network.Network.{Network}
use Rattle.cfg_ast.specs.meaning.Classes.{same_origin, same_items, origins_of, answers_of, originated, originated_by, IsSameClass, is_same_class, class_of, AreAscending}
use Rattle.cfg_ast.proofs.PrefixSets.{ascending_with_prefixes, ascending_filter_prefixes}

-- a test says that two values are one
pub record Tells {X : Type 0} (same : X → X → Bool) : Type 0 where
  pub one : (x y : X) → same x y ≡ true → x ≡ y
  pub self : (x : X) → same x x ≡ true

both_first : (a b : Bool) → (a && b) ≡ true → a ≡ true
both_first true b e = refl
both_first false b e = e

both_second : (a b : Bool) → (a && b) ≡ true → b ≡ true
both_second true b e = e
both_second false b e = absurd (true≢false (sym e))

both_are : (a b : Bool) → a ≡ true → b ≡ true → (a && b) ≡ true
both_are true b first second = second
both_are false b first second = first

items_one : {X : Type 0} (same : X → X → Bool) → Tells same → (xs ys : List X) → same_items same xs ys ≡ true → xs ≡ ys
items_one same tells [] [] e = refl
items_one same tells [] (y ∷ ys) e = absurd (true≢false (sym e))
items_one same tells (x ∷ xs) [] e = absurd (true≢false (sym e))
items_one same tells (x ∷ xs) (y ∷ ys) e =
    ap (λ z. z ∷ xs) (tells.one x y (both_first (same x y) (same_items same xs ys) e))
    ∙ ap (λ zs. y ∷ zs) (items_one same tells xs ys (both_second (same x y) (same_items same xs ys) e))

items_self : {X : Type 0} (same : X → X → Bool) → Tells same → (xs : List X) → same_items same xs xs ≡ true
items_self same tells [] = refl
items_self same tells (x ∷ xs) = both_are (same x x) (same_items same xs xs) (tells.self x) (items_self same tells xs)

pub items_tell : {X : Type 0} (same : X → X → Bool) → Tells same → Tells (same_items same)
items_tell same tells = record { one = items_one same tells; self = items_self same tells }

pub beq_tells : Tells beq
beq_tells = record { one = one; self = self } where
  one : (x y : Bool) → beq x y ≡ true → x ≡ y
  one true true e = refl
  one true false e = absurd (true≢false (sym e))
  one false true e = absurd (true≢false (sym e))
  one false false e = refl

  self : (x : Bool) → beq x x ≡ true
  self true = refl
  self false = refl

cost_one : (a b : Option ℕ) → option_eq nat_eq a b ≡ true → a ≡ b
cost_one None None e = refl
cost_one None (Some y) e = absurd (true≢false (sym e))
cost_one (Some x) None e = absurd (true≢false (sym e))
cost_one (Some x) (Some y) e = let same : x ≡ y = grind (arith, nat_tests) in ap Some same

cost_self : (a : Option ℕ) → option_eq nat_eq a a ≡ true
cost_self None = refl
cost_self (Some x) = grind (arith, nat_tests)

pub origins_tell : Tells same_origin
origins_tell = record { one = one; self = self } where
  one : (x y : Origin) → same_origin x y ≡ true → x ≡ y
  one x y e =
      let number : nat_eq x.router y.router ≡ true = both_first (nat_eq x.router y.router) (option_eq nat_eq x.cost y.cost) e in
      let router : x.router ≡ y.router = grind (arith, nat_tests) in
      let cost : x.cost ≡ y.cost = cost_one x.cost y.cost (both_second (nat_eq x.router y.router) (option_eq nat_eq x.cost y.cost) e) in
      ap (λ r. let o : Origin = record { router = r; cost = x.cost } in o) router ∙ ap (λ c. let o : Origin = record { router = y.router; cost = c } in o) cost

  self : (x : Origin) → same_origin x x ≡ true
  self x = both_are (nat_eq x.router x.router) (option_eq nat_eq x.cost x.cost) (let t : nat_eq x.router x.router ≡ true = grind (arith, nat_tests) in t)
      (cost_self x.cost)

pub one_class : (network : Network) (p q : Prefix) → is_same_class network p q ≡ true → IsSameClass network p q
unfolding is_same_class
one_class network p q same = record {
  origins = (items_tell same_origin origins_tell).one (origins_of network p) (origins_of network q) (both_first _ _ same);
  answers = (items_tell beq beq_tells).one (answers_of network p) (answers_of network q) (both_second _ _ same);
}

pub is_one_class : (network : Network) (p q : Prefix) → IsSameClass network p q → is_same_class network p q ≡ true
unfolding is_same_class
is_one_class network p q same = both_are _ _
    (ap (same_items same_origin (origins_of network p)) (sym same.origins) ∙ (items_tell same_origin origins_tell).self (origins_of network p))
    (ap (same_items beq (answers_of network p)) (sym same.answers) ∙ (items_tell beq beq_tells).self (answers_of network p))

-- members of one class are in one class with the same prefixes
alike_tests : (network : Network) (p q : Prefix) → IsSameClass network p q → (ps : List Prefix) →
    filter (is_same_class network p) ps ≡ filter (is_same_class network q) ps
unfolding is_same_class
alike_tests network p q same ps =
    ap (λ os. filter (λ r. same_items same_origin os (origins_of network r) && same_items beq (answers_of network p) (answers_of network r)) ps) same.origins
    ∙ ap (λ all. filter (λ r. same_items same_origin (origins_of network q) (origins_of network r) && same_items beq all (answers_of network r)) ps)
    same.answers

pub class_of_each : (network : Network) (p q : Prefix) → IsSameClass network p q → class_of network p ≡ class_of network q
class_of_each network p q same =
    ap (λ ps. let c : DestClass = record { prefixes = ps; origins = origins_of network p } in c) (alike_tests network p q same (originated network))
    ∙ ap (λ os. let c : DestClass = record { prefixes = filter (is_same_class network q) (originated network); origins = os } in c) same.origins

pub originated_ascends : (network : Network) → AreAscending (originated network)
unfolding originated
originated_ascends network = ascending_with_prefixes (flat_map originated_by network.routers) [] tt

pub class_ascends : (network : Network) (p : Prefix) → AreAscending (class_of network p).prefixes
class_ascends network p = ascending_filter_prefixes (is_same_class network p) (originated network) (originated_ascends network)
