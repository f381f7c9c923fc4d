-- The number of a class has few digits: there are no more classes than interfaces, and a text has few lines.
use Rattle.std.proofs.Common.{◌≡◌, ◌≤◌, ℕ, zero, suc, ◌+◌, ◌-◌, Bool, true, false, cond, List, [], ◌∷◌, filter, filter_map, flat_map, length, length-append, refl, sym, ap, ◌∙◌, arith, if◌then◌else◌, Option, Some, None}
use Rattle.std.specs.Prelude.{is_some, nat_eq, slice_get}
use Rattle.std.specs.List.{cons_option, enumerate_from}
use Rattle.std.proofs.lemmas.Bool.Decides.{nat_tests}
use Rattle.std.proofs.lemmas.List.{length-map}
use Rattle.std.proofs.lemmas.Option.{slice_get_within}
use Rattle.base_kit.specs.Prefixes.{Prefix, same_prefix}
use Rattle.cfg_ast.specs.declared.classes.DestClass.{DestClass}
use Rattle.cfg_ast.specs.declared.network.Network.{Network}
use Rattle.cfg_ast.specs.declared.network.Router.{Router}
use Rattle.cfg_ast.specs.meaning.Classes.{class_of, classes_of, initial_route, is_before, is_least, originated, originated_by, up_subnet, with_prefix, with_prefixes}
use Rattle.cfg_ast.specs.meaning.Topology.{interfaces_of, place_on, places, places_on}
use Rattle.cfg_ast.specs.text.Reading.{IsGiven}
use Rattle.given_laws.proofs.PlaceOrder.{given_places_are_in_order}
use Rattle.reading_laws.specs.WellRead.{WhatIsReadIsWell}
use Rattle.answer_kit.specs.ClassNumbers.{class_at}
use Rattle.workflow_laws.specs.Setting.{HasClass, IsShort}

-- ---- lists

fewer_kept : {X : Type 0} (p : X → Bool) (xs : List X) → length (filter p xs) ≤ length xs
fewer_kept p [] = omega arith
fewer_kept p (x ∷ xs) = by (p x) (fewer_kept p xs)
  where
    by : (b : Bool) → length (filter p xs) ≤ length xs → length (cond b (x ∷ filter p xs) (filter p xs)) ≤ suc (length xs)
    by true few = omega (arith, few)
    by false few = omega (arith, few)

fewer_given : {X Y : Type 0} (f : X → Option Y) (xs : List X) → length (filter_map f xs) ≤ length xs
fewer_given f [] = omega arith
fewer_given {X = X} {Y = Y} f (x ∷ xs) = by (f x) (fewer_given f xs)
  where
    by : (o : Option Y) → length (filter_map f xs) ≤ length xs → length (cons_option o (filter_map f xs)) ≤ suc (length xs)
    by None few = omega (arith, few)
    by (Some y) few = omega (arith, few)

one_prefix_more : (p : Prefix) (ps : List Prefix) → length (with_prefix p ps) ≤ suc (length ps)
one_prefix_more p [] = omega arith
one_prefix_more p (q ∷ qs) = by (is_before p q) (same_prefix p q) (one_prefix_more p qs)
  where
    by : (a b : Bool) → length (with_prefix p qs) ≤ suc (length qs)
        → length (cond a (p ∷ q ∷ qs) (cond b (q ∷ qs) (q ∷ with_prefix p qs))) ≤ suc (suc (length qs))
    by true b few = omega (arith, few)
    by false true few = omega (arith, few)
    by false false few = omega (arith, few)

prefixes_more : (more ps : List Prefix) → length (with_prefixes more ps) ≤ length more + length ps
prefixes_more [] ps = omega arith
prefixes_more (p ∷ more) ps = omega (arith, prefixes_more more (with_prefix p ps), one_prefix_more p ps)

as_many : {X : Type 0} (k : ℕ) (xs : List X) → length (enumerate_from k xs) ≡ length xs
as_many k [] = refl
as_many k (x ∷ xs) = omega (arith, as_many (k + 1) xs)

-- ---- interfaces

of_router : (r : Router) → length (originated_by r) ≤ length r.interfaces
of_router r = omega (arith, fewer_kept (λ (p : Prefix). is_some (initial_route r p)) (filter_map up_subnet r.interfaces), fewer_given up_subnet r.interfaces)

of_routers : (k : ℕ) (rs : List Router) → length (flat_map originated_by rs) ≤ length (flat_map (places_on interfaces_of) (enumerate_from k rs))
of_routers k [] = omega arith
of_routers k (r ∷ rs) =
    let here : length (places_on interfaces_of (k, r)) ≡ length r.interfaces = length-map (enumerate_from 0 r.interfaces) (place_on k r) ∙ as_many 0
    r.interfaces in
    omega (
      arith,
      here,
      of_router r,
      of_routers (k + 1) rs,
      length-append (originated_by r) (flat_map originated_by rs),
      length-append (places_on interfaces_of (k, r)) (flat_map (places_on interfaces_of) (enumerate_from (k + 1) rs)),
    )

few_originated : (n : Network) → length (originated n) ≤ length (places interfaces_of n)
unfolding originated places
few_originated n = omega (arith, prefixes_more (flat_map originated_by n.routers) [], of_routers 0 n.routers)

few_classes : (n : Network) → length (classes_of n) ≤ length (originated n)
unfolding classes_of
few_classes n = omega (arith, length-map (filter (is_least n) (originated n)) (class_of n), fewer_kept (is_least n) (originated n))

-- ---- numbers

-- the place of the class of a number
pub at_before : (classes : List DestClass) (k : ℕ) (class : DestClass) → class_at classes (suc k) ≡ Some class → slice_get classes k ≡ Some class
at_before classes k class e =
    let later : nat_eq (suc k) 0 ≡ false = grind (arith, nat_tests) in
    let before : suc k - 1 ≡ k = omega arith in
    sym (ap (λ (b : Bool). if b then None else slice_get classes (suc k - 1)) later ∙ ap (slice_get classes) before) ∙ e

within : (classes : List DestClass) (number : ℕ) (class : DestClass) → class_at classes number ≡ Some class → number ≤ length classes
within classes zero class e = omega arith
within classes (suc k) class e = (let inside = slice_get_within classes k class (at_before classes k class e) in omega (arith, inside))

short_number : (n : Network) → ∥ IsGiven n ∥₁ → (number : ℕ) (class : DestClass) → class_at (classes_of n) number ≡ Some class → IsShort number
short_number n given number class at =
    let most = (given_places_are_in_order n given).few_interfaces in
    omega (arith, most, few_originated n, few_classes n, within (classes_of n) number class at)

-- the number of a class of a text that is read
pub short_of_class : WhatIsReadIsWell → (text : List ℕ) (number : ℕ) → HasClass text number → IsShort number
short_of_class well text number c = short_number c.network ∣ (text, (well text c.network c.reads).given) ∣₁ number c.class c.class_is
