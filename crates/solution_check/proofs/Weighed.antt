-- What a route weighs, by the parts of its key.
use Rattle.std.proofs.Common.{◌≡◌, ℕ, suc, ◌+◌, Bool, true, false, ◌||◌, List, [], length, refl, sym, ap, ◌∙◌, Option, Some, None, Result, Ok, Err, IfOk}
use Rattle.std.specs.Ordering.{is_lt}
use Rattle.std.specs.List.{list_any, cons_option}
use Rattle.route_maps.specs.declared.plain.Imported.{Imported}
use Rattle.srp_core.specs.declared.route.Route.{Route}
use Rattle.srp_core.specs.Acts.{arrived}
use Rattle.srp_core.specs.Routes.{Key, path_of, chosen, compare_keys}
use Rattle.srp_core.specs.Problem.{Problem, is_lone_number, key_of}
use Rattle.route_keys.specs.Keys.{key, key_with}
use Rattle.solution_check.specs.declared.weights.Weight.{Weight}
use Rattle.route_offers.specs.Offers.{with_lone}
use Rattle.route_offers.proofs.OfferKeys.{none_chosen, route_key, arrived_key}
use Rattle.solution_check.specs.Offers.{is_label, beats_label, one, WeighsAs}

pub if_ok : {X E : Type 0} {P Q : X → Type 0} (r : Result X E) → ((x : X) → P x → Q x) → IfOk r P → IfOk r Q
if_ok (Ok x) more is = more x is
if_ok (Err e) more is = tt

or_none : (b : Bool) → b || false ≡ b
or_none true = refl
or_none false = refl

weighs_one : (P : Problem) (route candidate : Route) (found : Option Route) (w : Weight) → found ≡ Some candidate → w.held ≡ is_label route candidate →
    w.beaten ≡ beats_label P route candidate → WeighsAs P route (one found) w
weighs_one P route candidate found w is held beaten = record {
  held = held ∙ sym (or_none (is_label route candidate)) ∙ sym (ap (λ (o : Option Route). list_any (is_label route) (one o)) is);
  beaten = beaten ∙ sym (or_none (beats_label P route candidate)) ∙ sym (ap (λ (o : Option Route). list_any (beats_label P route) (one o)) is);
}

-- a route without a path
pub bare_weighs : (P : Problem) (route candidate : Route) (found : Option Route) (other : List ℕ) → found ≡ Some candidate → path_of candidate ≡ [] →
    other ≡ chosen (is_lone_number P) (path_of route)
    → (w : Weight) → (w.held ≡ is_label route candidate) × (w.beaten ≡ is_lt (compare_keys (key_with candidate []) (key_with route other))) →
    WeighsAs P route (one found) w
bare_weighs P route candidate found other is empty others w weighs =
    let first : key_with candidate [] ≡ key_of P candidate =
    ap (key_with candidate) (sym (ap (chosen (is_lone_number P)) empty ∙ none_chosen (is_lone_number P))) in
    weighs_one P route candidate found w is weighs.0 (weighs.1 ∙ ap (λ (k : Key). is_lt (compare_keys k (key_with route other))) first
    ∙ ap (λ (k : Key). is_lt (compare_keys (key_of P candidate) k)) (route_key P route other others))

pub nothing_weighs : (P : Problem) (route : Route) (found : Option Route) (w : Weight) → found ≡ None → w.held ≡ false → w.beaten ≡ false →
    WeighsAs P route (one found) w
nothing_weighs P route found w is held beaten = record {
  held = held ∙ sym (ap (λ (o : Option Route). list_any (is_label route) (one o)) is);
  beaten = beaten ∙ sym (ap (λ (o : Option Route). list_any (beats_label P route) (one o)) is);
}

-- ---- an import

pub import_weighs : (P : Problem) (route : Route) (found : Option Route) (other : List ℕ) (number : ℕ) (path : List ℕ) (imported : Imported) (is_lone : Bool)
    (rest : List ℕ) → found ≡ Some (arrived number path imported)
    → is_lone ≡ is_lone_number P number → rest ≡ chosen (is_lone_number P) path → other ≡ chosen (is_lone_number P) (path_of route)
    → (w : Weight) → (w.held ≡ is_label route (arrived number path imported))
    × (w.beaten ≡ is_lt (compare_keys (key imported.lp (length path + suc imported.adds) imported.comms (with_lone is_lone number rest))
    (key_with route other))) → WeighsAs P route (one found) w
import_weighs P route found other number path imported is_lone rest is lone rests others w weighs =
    weighs_one P route (arrived number path imported) found w is weighs.0
    (weighs.1 ∙ ap (λ (k : Key). is_lt (compare_keys k (key_with route other))) (arrived_key P number path imported is_lone rest lone rests)
    ∙ ap (λ (k : Key). is_lt (compare_keys (key_of P (arrived number path imported)) k)) (route_key P route other others))

-- ---- some candidates more

or_all : (a b c : Bool) → (a || b) || c ≡ a || (b || c)
or_all true b c = refl
or_all false b c = refl

any_cons : (test : Route → Bool) (found : Option Route) (routes : List Route) → list_any test (cons_option found routes) ≡ list_any test (one found)
    || list_any test routes
any_cons test None routes = refl
any_cons test (Some r) routes = ap (λ (b : Bool). b || list_any test routes) (sym (or_none (test r)))

pub more_weighed : (test : Route → Bool) (before mine all : Bool) (found : Option Route) (routes : List Route) → mine ≡ list_any test (one found) →
    before || list_any test (cons_option found routes) ≡ all → (before || mine) || list_any test routes ≡ all
more_weighed test before mine all found routes is so_far =
    or_all before mine (list_any test routes) ∙ ap (λ (b : Bool). before || (b || list_any test routes)) is
    ∙ ap (λ (b : Bool). before || b) (sym (any_cons test found routes)) ∙ so_far

pub all_weighed : (test : Route → Bool) (before all : Bool) (found : Option Route) (routes : List Route) → before ≡ list_any test (one found) →
    all ≡ before || list_any test routes → all ≡ list_any test (cons_option found routes)
all_weighed test before all found routes first rest = rest ∙ ap (λ (b : Bool). b || list_any test routes) first ∙ sym (any_cons test found routes)
