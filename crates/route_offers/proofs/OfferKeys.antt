-- The keys of routes that are compared in pieces.
use Rattle.std.proofs.Common.{◌≡◌, ℕ, zero, suc, ◌+◌, ◌<◌, Bool, true, false, ◌||◌, List, [], length, map, get_or, refl, sym, ap, ◌∙◌, arith, nat_eq, Option, Some, None}
use Rattle.std.proofs.lemmas.List.{get_or-map}
use Rattle.base_kit.specs.Sets.{has, with_number, IsAscending}
use Rattle.base_kit.proofs.SetFacts.{has-with_number, one_list}
use Rattle.base_kit.proofs.Members.{ascending_with}
use Rattle.route_maps.specs.declared.plain.Imported.{Imported}
use Rattle.srp_core.specs.declared.route.Route.{Route}
use Rattle.srp_core.specs.declared.route.Route.TheVariants.{Bgp}
use Rattle.srp_core.specs.Acts.{prepended, arrived}
use Rattle.srp_core.specs.Routes.{path_of, chosen}
use Rattle.srp_core.specs.Problem.{Problem, is_lone_number, key_of}
use Rattle.srp_core.specs.Stability.{label}
use Rattle.route_keys.specs.Keys.{key, key_with}
use Rattle.route_keys.proofs.LonePaths.{chosen_ascends}
use Rattle.route_offers.specs.Lone.{lone_of}
use Rattle.route_offers.specs.Offers.{with_lone}

pub none_chosen : (test : ℕ → Bool) → chosen test [] ≡ []
unfolding chosen
none_chosen test = refl

pub route_key : (P : Problem) (route : Route) (other : List ℕ) → other ≡ chosen (is_lone_number P) (path_of route) → key_with route other ≡ key_of P route
route_key P route other is = ap (key_with route) is

-- ---- an import

longer : (k number : ℕ) (path : List ℕ) → length (prepended k number path) ≡ length path + k
longer zero number path = omega arith
longer (suc k) number path = omega (arith, longer k number path)

or_twice : (a b : Bool) → a || (a || b) ≡ a || b
or_twice true b = refl
or_twice false b = refl

with_twice : (n : ℕ) (xs : List ℕ) → IsAscending xs → with_number n (with_number n xs) ≡ with_number n xs
with_twice n xs up =
    one_list (with_number n (with_number n xs)) (with_number n xs) (ascending_with n (with_number n xs) (ascending_with n xs up)) (ascending_with n xs up)
    (λ c. has-with_number n (with_number n xs) c ∙ ap (λ (b : Bool). nat_eq n c || b) (has-with_number n xs c) ∙ or_twice (nat_eq n c) (has xs c)
    ∙ sym (has-with_number n xs c))

lone_twice : (b : Bool) (n : ℕ) (xs : List ℕ) → IsAscending xs → with_lone b n (with_lone b n xs) ≡ with_lone b n xs
lone_twice true n xs up = with_twice n xs up
lone_twice false n xs up = refl

lone_longer : (test : ℕ → Bool) (k number : ℕ) (path : List ℕ) → chosen test (prepended (suc k) number path) ≡ with_lone (test number) number (chosen test path)
unfolding chosen
lone_longer test zero number path = refl
lone_longer test (suc k) number path = ap (with_lone (test number) number) (lone_longer test k number path)
    ∙ lone_twice (test number) number (chosen test path) (chosen_ascends test path)

-- its key, by the lone numbers on the path before
pub arrived_key : (P : Problem) (number : ℕ) (path : List ℕ) (imported : Imported) (is_lone : Bool) (rest : List ℕ) → is_lone ≡ is_lone_number P number →
    rest ≡ chosen (is_lone_number P) path
    → key imported.lp (length path + suc imported.adds) imported.comms (with_lone is_lone number rest) ≡ key_of P (arrived number path imported)
arrived_key P number path imported is_lone rest lone rests =
    ap (λ (n : ℕ). key imported.lp n imported.comms (with_lone is_lone number rest)) (sym (longer (suc imported.adds) number path))
    ∙ ap (λ (l : List ℕ). key imported.lp (length (prepended (suc imported.adds) number path)) imported.comms l)
    (ap (λ (b : Bool). with_lone b number rest) lone ∙ ap (with_lone (is_lone_number P number) number) rests
    ∙ sym (lone_longer (is_lone_number P) imported.adds number path))

-- ---- the lone numbers on the path of a label

pub lone_label : (P : Problem) (L : List (Option Route)) (paths : List (List ℕ)) (u : ℕ) (rest : List ℕ) (r : Route) → u < length L →
    paths ≡ map (lone_of P) L → rest ≡ get_or paths u rest → label L u ≡ Some r → rest ≡ chosen (is_lone_number P) (path_of r)
lone_label P L paths u rest r inside are is labelled =
    is ∙ ap (λ (ps : List (List ℕ)). get_or ps u rest) are ∙ get_or-map (lone_of P) L u None rest inside ∙ ap (lone_of P) labelled

pub lone_at : (P : Problem) (L : List (Option Route)) (paths : List (List ℕ)) (u : ℕ) (rest : List ℕ) (lp : ℕ) (path comms : List ℕ) → u < length L →
    paths ≡ map (lone_of P) L → rest ≡ get_or paths u rest → label L u ≡ Some (Bgp lp path comms) → rest ≡ chosen (is_lone_number P) path
lone_at P L paths u rest lp path comms inside are is labelled = lone_label P L paths u rest (Bgp lp path comms) inside are is labelled
