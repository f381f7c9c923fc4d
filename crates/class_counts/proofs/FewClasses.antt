-- Public: there are few classes: no more than interfaces, and a text has few lines.
use Rattle.std.proofs.Common.{◌≡◌, ◌≤◌, ℕ, suc, ◌+◌, Bool, true, false, cond, List, [], ◌∷◌, filter, filter_map, flat_map, length, length-append, refl, ◌∙◌, arith, Option, Some, None}
use Rattle.std.specs.Prelude.{is_some}
use Rattle.std.specs.List.{cons_option, enumerate_from}
use Rattle.std.proofs.lemmas.List.{length-map}
use Rattle.base_kit.specs.Prefixes.{Prefix, same_prefix}
use Rattle.cfg_ast.specs.declared.network.Network.{Network}
use Rattle.cfg_ast.specs.declared.network.Router.{Router}
use Rattle.cfg_ast.specs.meaning.Classes.{class_of, classes_of, initial_route, is_before, is_least, originated, originated_by, up_subnet, with_prefix, with_prefixes}
use Rattle.cfg_ast.specs.meaning.Topology.{interfaces_of, place_on, places, places_on}
use Rattle.class_counts.specs.Counts.{FewClasses}
use Rattle.given_laws.proofs.PlaceOrder.{given_places_are_in_order}

-- ---- lists

fewer_kept : {X : Type 0} (p : X → Bool) (xs : List X) → length (filter p xs) ≤ length xs
fewer_kept p [] = omega arith
fewer_kept p (x ∷ xs) = by (p x) (fewer_kept p xs)
  where
    by : (b : Bool) → length (filter p xs) ≤ length xs → length (cond b (x ∷ filter p xs) (filter p xs)) ≤ suc (length xs)
    by true few = omega (arith, few)
    by false few = omega (arith, few)

fewer_given : {X Y : Type 0} (f : X → Option Y) (xs : List X) → length (filter_map f xs) ≤ length xs
fewer_given f [] = omega arith
fewer_given {X = X} {Y = Y} f (x ∷ xs) = by (f x) (fewer_given f xs)
  where
    by : (o : Option Y) → length (filter_map f xs) ≤ length xs → length (cons_option o (filter_map f xs)) ≤ suc (length xs)
    by None few = omega (arith, few)
    by (Some y) few = omega (arith, few)

one_prefix_more : (p : Prefix) (ps : List Prefix) → length (with_prefix p ps) ≤ suc (length ps)
one_prefix_more p [] = omega arith
one_prefix_more p (q ∷ qs) = by (is_before p q) (same_prefix p q) (one_prefix_more p qs)
  where
    by : (a b : Bool) → length (with_prefix p qs) ≤ suc (length qs)
        → length (cond a (p ∷ q ∷ qs) (cond b (q ∷ qs) (q ∷ with_prefix p qs))) ≤ suc (suc (length qs))
    by true b few = omega (arith, few)
    by false true few = omega (arith, few)
    by false false few = omega (arith, few)

prefixes_more : (more ps : List Prefix) → length (with_prefixes more ps) ≤ length more + length ps
prefixes_more [] ps = omega arith
prefixes_more (p ∷ more) ps = omega (arith, prefixes_more more (with_prefix p ps), one_prefix_more p ps)

as_many : {X : Type 0} (k : ℕ) (xs : List X) → length (enumerate_from k xs) ≡ length xs
as_many k [] = refl
as_many k (x ∷ xs) = omega (arith, as_many (k + 1) xs)

-- ---- interfaces

of_router : (r : Router) → length (originated_by r) ≤ length r.interfaces
of_router r = omega (arith, fewer_kept (λ (p : Prefix). is_some (initial_route r p)) (filter_map up_subnet r.interfaces), fewer_given up_subnet r.interfaces)

of_routers : (k : ℕ) (rs : List Router) → length (flat_map originated_by rs) ≤ length (flat_map (places_on interfaces_of) (enumerate_from k rs))
of_routers k [] = omega arith
of_routers k (r ∷ rs) =
    let here : length (places_on interfaces_of (k, r)) ≡ length r.interfaces = length-map (enumerate_from 0 r.interfaces) (place_on k r) ∙ as_many 0
    r.interfaces in
    omega (
      arith,
      here,
      of_router r,
      of_routers (k + 1) rs,
      length-append (originated_by r) (flat_map originated_by rs),
      length-append (places_on interfaces_of (k, r)) (flat_map (places_on interfaces_of) (enumerate_from (k + 1) rs)),
    )

few_originated : (n : Network) → length (originated n) ≤ length (places interfaces_of n)
unfolding originated places
few_originated n = omega (arith, prefixes_more (flat_map originated_by n.routers) [], of_routers 0 n.routers)

few_of_originated : (n : Network) → length (classes_of n) ≤ length (originated n)
unfolding classes_of
few_of_originated n = omega (arith, length-map (filter (is_least n) (originated n)) (class_of n), fewer_kept (is_least n) (originated n))

pub few_classes : FewClasses
few_classes n given =
    let most = (given_places_are_in_order n given).few_interfaces in
    omega (arith, most, few_originated n, few_of_originated n)
