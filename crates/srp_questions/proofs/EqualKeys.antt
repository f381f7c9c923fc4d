-- Keys that are compared in parts.
use Rattle.std.proofs.Common.{◌≡◌, ℕ, suc, ◌+◌, Bool, true, ◌&&◌, List, [], length, refl, sym, ap, ◌∙◌, nat_eq, Option, Some, None, true≢false}
use Rattle.std.specs.Prelude.{bytes_eq}
use Rattle.std.proofs.lemmas.Bool.{and_parts, eqb-true, eq-eqb}
use Rattle.std.proofs.lemmas.Slice.Eq.{bytes_eq-Decides}
use Rattle.route_maps.specs.declared.plain.Imported.{Imported}
use Rattle.srp_core.specs.declared.route.Route.{Route}
use Rattle.srp_core.specs.declared.route.Route.TheVariants.{Ospf}
use Rattle.srp_core.specs.Acts.{arrived}
use Rattle.srp_core.specs.Routes.{Key, path_of, chosen}
use Rattle.srp_core.specs.Problem.{Problem, is_lone_number, key_of}
use Rattle.route_keys.specs.Keys.{key, key_with}
use Rattle.route_offers.specs.Offers.{with_lone}
use Rattle.route_offers.proofs.OfferKeys.{none_chosen, route_key, arrived_key}
use Rattle.srp_questions.specs.Ties.{same_key, has_key_of}

pub same_key_true : (a b : Key) → same_key a b ≡ true → a ≡ b
same_key_true a b e =
    let first = and_parts (nat_eq a.preference b.preference) (nat_eq a.size b.size && (bytes_eq a.comms b.comms && bytes_eq a.lone b.lone)) e in
    let second = and_parts (nat_eq a.size b.size) (bytes_eq a.comms b.comms && bytes_eq a.lone b.lone) first.1 in
    let rest = and_parts (bytes_eq a.comms b.comms) (bytes_eq a.lone b.lone) second.1 in
    ap (λ (n : ℕ). key n a.size a.comms a.lone) (eqb-true a.preference b.preference first.0)
    ∙ ap (λ (n : ℕ). key b.preference n a.comms a.lone) (eqb-true a.size b.size second.0)
    ∙ ap (λ (l : List ℕ). key b.preference b.size l a.lone) ((bytes_eq-Decides a.comms b.comms).0 rest.0)
    ∙ ap (λ (l : List ℕ). key b.preference b.size b.comms l) ((bytes_eq-Decides a.lone b.lone).0 rest.1)

pub same_key_self : (a : Key) → same_key a a ≡ true
same_key_self a =
    rw (eq-eqb a.preference a.preference refl, eq-eqb a.size a.size refl, (bytes_eq-Decides a.comms a.comms).1 refl, (bytes_eq-Decides a.lone a.lone).1 refl)
    refl

-- what passes the test has the key
pub tied : (P : Problem) (r : Route) (o : Option Route) → has_key_of P r o ≡ true → (c : Route) × (o ≡ Some c) × (key_of P c ≡ key_of P r)
tied P r None e = absurd (true≢false (sym e))
tied P r (Some c) e = (c, refl, same_key_true (key_of P c) (key_of P r) e)

-- what has the key passes
pub ties : (P : Problem) (r : Route) (o : Option Route) (c : Route) → o ≡ Some c → key_of P c ≡ key_of P r → has_key_of P r o ≡ true
ties P r o c is same = ap (has_key_of P r) is ∙ ap (λ (k : Key). same_key k (key_of P r)) same ∙ same_key_self (key_of P r)

-- a route of which the key is compared with that of the label
has_key_by : (P : Problem) (route candidate : Route) (found : Option Route) (k : Key) (other : List ℕ) (b : Bool) → found ≡ Some candidate →
    k ≡ key_of P candidate →
    other ≡ chosen (is_lone_number P) (path_of route) → b ≡ same_key k (key_with route other) → b ≡ has_key_of P route found
has_key_by P route candidate found k other b is keyed others told = told ∙ ap (λ (q : Key). same_key q (key_with route other)) keyed
    ∙ ap (same_key (key_of P candidate)) (route_key P route other others) ∙ sym (ap (has_key_of P route) is)

pub import_has_key : (P : Problem) (route : Route) (found : Option Route) (other : List ℕ) (number : ℕ) (path : List ℕ) (imported : Imported) (is_lone : Bool)
    (rest : List ℕ) → found ≡ Some (arrived number path imported) → is_lone ≡ is_lone_number P number → rest ≡ chosen (is_lone_number P) path →
    other ≡ chosen (is_lone_number P) (path_of route) →
    (b : Bool) → b ≡ same_key (key imported.lp (length path + suc imported.adds) imported.comms (with_lone is_lone number rest)) (key_with route other) →
    b ≡ has_key_of P route found
import_has_key P route found other number path imported is_lone rest is lone rests others b told =
    has_key_by P route (arrived number path imported) found (key imported.lp (length path + suc imported.adds) imported.comms (with_lone is_lone number rest))
    other b is (arrived_key P number path imported is_lone rest lone rests) others told

pub cost_has_key : (P : Problem) (route : Route) (found : Option Route) (other : List ℕ) (cost : ℕ) → found ≡ Some (Ospf cost) →
    other ≡ chosen (is_lone_number P) (path_of route) → (b : Bool) → b ≡ same_key (key 0 cost [] []) (key_with route other) → b ≡ has_key_of P route found
cost_has_key P route found other cost is others b told =
    has_key_by P route (Ospf cost) found (key 0 cost [] []) other b is (ap (key 0 cost []) (sym (none_chosen (is_lone_number P)))) others told
