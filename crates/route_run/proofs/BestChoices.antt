-- The label that a router chooses, by its candidates.
use Rattle.std.proofs.Common.{◌≡◌, ◌≢◌, ℕ, zero, suc, ◌<◌, Bool, true, false, cond, not, ◌&&◌, ◌||◌, List, [], ◌∷◌, length, get_or, Option, Some, None, refl, sym, ap, ◌∙◌, subst, arith, inl, inr, option_map}
use Rattle.std.specs.Prelude.{find}
use Rattle.std.specs.List.{list_any, list_all}
use Rattle.std.proofs.lemmas.Bool.{cases_Bool, and_parts, and_from, not-true, not_from_false, cond-true, cond-false, true≢false, false_from_ne_true}
use Rattle.std.proofs.lemmas.List.{get_or_default, nil_from_length}
use Rattle.std.proofs.lemmas.List.MinMax.{IsFirstBest-from_best_of}
use Rattle.base_kit.proofs.Elements.{In, contains_in, in_contains}
use Rattle.srp_core.specs.declared.route.Route.{Route}
use Rattle.srp_core.specs.declared.route.Candidate.{Candidate}
use Rattle.route_keys.specs.Same.{same_route}
use Rattle.route_keys.proofs.Same.{same_self, same_true}
use Rattle.route_run.specs.Activations.{beats, is_unbeaten, first_best, is_held, is_still_best, chosen_of}
use Rattle.route_run.specs.Choices.{IsBestUpto}
use Rattle.route_run.proofs.Routes.{candidates_rank, beats_too}

-- ---- tests of all and of some

all_pass : {X : Type 0} (test : X → Bool) (xs : List X) → ((x : X) → In xs x → test x ≡ true) → list_all test xs ≡ true
all_pass test [] h = refl
all_pass test (x ∷ xs) h = and_from (test x) (list_all test xs) (h x (inl refl)) (all_pass test xs (λ y i. h y (inr i)))

pass_all : {X : Type 0} (test : X → Bool) (xs : List X) (x : X) → list_all test xs ≡ true → In xs x → test x ≡ true
pass_all test [] x e i = absurd i
pass_all test (y ∷ ys) x e (inl same) = ap test (sym same) ∙ (and_parts (test y) (list_all test ys) e).0
pass_all test (y ∷ ys) x e (inr i) = pass_all test ys x (and_parts (test y) (list_all test ys) e).1 i

any_by : {X : Type 0} (test : X → Bool) (y : X) (ys : List X) (b : Bool) → test y ≡ b → b || list_any test ys ≡ true →
    (list_any test ys ≡ true → (x : X) × In ys x × (test x ≡ true)) → (x : X) × In (y ∷ ys) x × (test x ≡ true)
any_by test y ys true t e later = (y, inl refl, t)
any_by test y ys false t e later = let l = later e in (l.0, inr l.1, l.2)

some_passes : {X : Type 0} (test : X → Bool) (xs : List X) → list_any test xs ≡ true → (x : X) × In xs x × (test x ≡ true)
some_passes test [] e = absurd cc
some_passes test (y ∷ ys) e = any_by test y ys (test y) refl e (some_passes test ys)

any_first : (a b : Bool) → a ≡ true → a || b ≡ true
any_first true b e = refl
any_first false b e = absurd cc

any_later : (a b : Bool) → b ≡ true → a || b ≡ true
any_later true b e = refl
any_later false b e = e

passes_some : {X : Type 0} (test : X → Bool) (xs : List X) (x : X) → In xs x → test x ≡ true → list_any test xs ≡ true
passes_some test [] x i e = absurd i
passes_some test (y ∷ ys) x (inl same) e = any_first (test y) (list_any test ys) (ap test same ∙ e)
passes_some test (y ∷ ys) x (inr i) e = any_later (test y) (list_any test ys) (passes_some test ys x i e)

find_by : {X : Type 0} (test : X → Bool) (y : X) (ys : List X) (x : X) (b : Bool) → test y ≡ b → cond b (Some y) (find test ys) ≡ Some x →
    (find test ys ≡ Some x → In ys x × (test x ≡ true)) → In (y ∷ ys) x × (test x ≡ true)
find_by test y ys x true t e later = let same : y ≡ x = cc in (inl same, ap test (sym same) ∙ t)
find_by test y ys x false t e later = let l = later e in (inr l.0, l.1)

found : {X : Type 0} (test : X → Bool) (xs : List X) (x : X) → find test xs ≡ Some x → In xs x × (test x ≡ true)
found test [] x e = absurd cc
found test (y ∷ ys) x e = find_by test y ys x (test y) refl e (found test ys x)

-- the first one that passes is found
find_first : {X : Type 0} (test : X → Bool) (xs : List X) (k : ℕ) (d : X) → k < length xs → test (get_or xs k d) ≡ true →
    ((j : ℕ) → j < k → test (get_or xs j d) ≡ false) → find test xs ≡ Some (get_or xs k d)
find_first test [] k d less t before = absurd (omega arith)
find_first test (x ∷ xs) zero d less t before = cond-true (test x) (Some x) (find test xs) t
find_first test (x ∷ xs) (suc k) d less t before = cond-false (test x) (Some x) (find test xs) (before 0 (omega arith))
    ∙ find_first test xs k d (omega arith) t (λ j lt. before (suc j) (omega arith))

-- ---- unbeaten routes

abbrev Unbeaten : (ℕ → Bool) → List Candidate → Route → Type 0
Unbeaten test all r = (d : Candidate) → In all d → beats test d.route r ≡ false

unbeaten_by : (test : ℕ → Bool) (all : List Candidate) (r : Route) → Unbeaten test all r → is_unbeaten test all r ≡ true
unbeaten_by test all r h = all_pass (λ (d : Candidate). not (beats test d.route r)) all (λ d i. not_from_false (beats test d.route r) (h d i))

by_unbeaten : (test : ℕ → Bool) (all : List Candidate) (r : Route) → is_unbeaten test all r ≡ true → Unbeaten test all r
by_unbeaten test all r e d i = not-true (beats test d.route r) (pass_all (λ (d : Candidate). not (beats test d.route r)) all d e i)

beaten_by : (test : ℕ → Bool) (all : List Candidate) (r : Route) (d : Candidate) → In all d → beats test d.route r ≡ true → is_unbeaten test all r ≡ false
beaten_by test all r d i e = false_from_ne_true (is_unbeaten test all r) (λ t. true≢false (sym e ∙ by_unbeaten test all r t d i))

-- ---- the first best candidate

at_place : (all : List Candidate) (k : ℕ) (d : Candidate) → k < length all → In all (get_or all k d)
at_place all k d less = in_contains all (get_or all k d) (k, less, get_or_default all k (get_or all k d) d less)

module _ (test : ℕ → Bool) (all : List Candidate) (place : ℕ) (best : IsBestUpto test all (length all) place) (d : Candidate) where
  pub best_unbeaten : Unbeaten test all (get_or all place d).route
  best_unbeaten c i =
      let h = contains_in all c i in
      let same = ap (λ (x : Candidate). beats test x.route (get_or all place d).route) (get_or_default all h.0 d c h.1 ∙ h.2) in
      sym same ∙ best.1 h.0 d h.1

  first_is : find (λ (c : Candidate). is_unbeaten test all c.route) all ≡ Some (get_or all place d)
  first_is =
      find_first (λ (c : Candidate). is_unbeaten test all c.route) all place d best.0 (unbeaten_by test all (get_or all place d).route best_unbeaten)
      (λ j lt. beaten_by test all (get_or all j d).route (get_or all place d) (at_place all place d best.0) (best.2 j d lt))

  pub first_best_is : first_best test all ≡ Some (get_or all place d).route
  first_best_is = ap (option_map (λ (c : Candidate). c.route)) first_is

  -- a route that the best one does not beat is unbeaten
  pub unbeaten_too : (r : Route) → beats test (get_or all place d).route r ≡ false → is_unbeaten test all r ≡ true
  unbeaten_too r e = unbeaten_by test all r
      (λ c i. false_from_ne_true (beats test c.route r) (λ t. true≢false (sym (beats_too test (get_or all place d).route c.route r (best_unbeaten c i) t) ∙ e)))

  pub beaten_too : (r : Route) → beats test (get_or all place d).route r ≡ true → is_unbeaten test all r ≡ false
  beaten_too r e = beaten_by test all r (get_or all place d) (at_place all place d best.0) e

  pub best_kept : is_still_best test all (Some (get_or all place d).route) ≡ true
  best_kept =
      and_from (is_held all (get_or all place d).route) (is_unbeaten test all (get_or all place d).route)
      (passes_some (λ (c : Candidate). same_route c.route (get_or all place d).route) all (get_or all place d) (at_place all place d best.0)
      (same_self (get_or all place d).route))
      (unbeaten_by test all (get_or all place d).route best_unbeaten)

-- where there is a candidate, there is a first best one
pub best_place : (test : ℕ → Bool) (all : List Candidate) (c : Candidate) → In all c → (place : ℕ) × IsBestUpto test all (length all) place
best_place test [] c i = absurd i
best_place test (a ∷ all) c i = let b = IsFirstBest-from_best_of (candidates_rank test) a all in (b.0, b.1)

-- ---- the choice

pub chosen_kept : (test : ℕ → Bool) (all : List Candidate) (label : Option Route) → is_still_best test all label ≡ true → chosen_of test all label ≡ label
unfolding chosen_of
chosen_kept test all label e = cond-true (is_still_best test all label) label (first_best test all) e

pub chosen_first : (test : ℕ → Bool) (all : List Candidate) (label : Option Route) → is_still_best test all label ≡ false →
    chosen_of test all label ≡ first_best test all
unfolding chosen_of
chosen_first test all label e = cond-false (is_still_best test all label) label (first_best test all) e

kept_nothing : (test : ℕ → Bool) (label : Option Route) → is_still_best test [] label ≡ false
kept_nothing test None = refl
kept_nothing test (Some r) = refl

pub chosen_none : (test : ℕ → Bool) (all : List Candidate) (label : Option Route) → length all ≡ 0 → chosen_of test all label ≡ None
chosen_none test all label e =
    let empty = nil_from_length all e in
    ap (λ (l : List Candidate). chosen_of test l label) empty ∙ chosen_first test [] label (kept_nothing test label)

-- what is chosen is a candidate that none beats
pub record IsBestCandidate (test : ℕ → Bool) (all : List Candidate) (r : Route) : Type 0 where
  pub candidate : Candidate
  pub inside : In all candidate
  pub same : candidate.route ≡ r
  pub unbeaten : (d : Candidate) → In all d → beats test d.route r ≡ false

kept_best : (test : ℕ → Bool) (all : List Candidate) (r : Route) → is_still_best test all (Some r) ≡ true → IsBestCandidate test all r
kept_best test all r e =
    let parts = and_parts (is_held all r) (is_unbeaten test all r) e in
    let held = some_passes (λ (c : Candidate). same_route c.route r) all parts.0 in
    record { candidate = held.0; inside = held.1; same = same_true held.0.route r held.2; unbeaten = by_unbeaten test all r parts.1 }

first_by : (test : ℕ → Bool) (all : List Candidate) (o : Option Candidate) (r : Route) → find (λ (c : Candidate). is_unbeaten test all c.route) all ≡ o →
    option_map (λ (c : Candidate). c.route) o ≡ Some r → IsBestCandidate test all r
first_by test all None r is e = absurd cc
first_by test all (Some c) r is e =
    let f = found (λ (c : Candidate). is_unbeaten test all c.route) all c is in
    let same : c.route ≡ r = cc in
    record { candidate = c; inside = f.0; same = same; unbeaten = subst (Unbeaten test all) same (by_unbeaten test all c.route f.1) }

pub chosen_some : (test : ℕ → Bool) (all : List Candidate) (label : Option Route) (r : Route) → chosen_of test all label ≡ Some r → IsBestCandidate test all r
chosen_some test all label r e = elim (cases_Bool (is_still_best test all label)) [
  | inl kept ↦ kept_best test all r (subst (λ (o : Option Route). is_still_best test all o ≡ true) (sym (chosen_kept test all label kept) ∙ e) kept)
  | inr other ↦ first_by test all (find (λ (c : Candidate). is_unbeaten test all c.route) all) r refl (sym (chosen_first test all label other) ∙ e)
]

-- where none is chosen there is no candidate
pub chosen_nothing : (test : ℕ → Bool) (all : List Candidate) (label : Option Route) → chosen_of test all label ≡ None → (c : Candidate) → ¬ In all c
chosen_nothing test all label e c i = elim (cases_Bool (is_still_best test all label)) [
  | inl kept ↦ (let none : is_still_best test all None ≡ true =
      subst (λ (o : Option Route). is_still_best test all o ≡ true) (sym (chosen_kept test all label kept) ∙ e) kept in cc)
  | inr other ↦ (let b = best_place test all c i in let some : Some (get_or all b.0 c).route ≡ None = sym (first_best_is test all b.0 b.1 c)
      ∙ sym (chosen_first test all label other) ∙ e in cc)
]

-- a label that is a candidate that none beats is chosen
pub best_chosen : (test : ℕ → Bool) (all : List Candidate) (r : Route) → IsBestCandidate test all r → chosen_of test all (Some r) ≡ Some r
best_chosen test all r best =
    chosen_kept test all (Some r)
    (and_from (is_held all r) (is_unbeaten test all r)
    (passes_some (λ (c : Candidate). same_route c.route r) all best.candidate best.inside (ap (λ (x : Route). same_route x r) best.same ∙ same_self r))
    (unbeaten_by test all r best.unbeaten))

-- ---- as code tests it

and_true : (b c : Bool) → c ≡ true → b ≡ b && c
and_true true c e = sym e
and_true false c e = refl

-- if a route is unbeaten, it is kept exactly if it is held
pub held_kept : (test : ℕ → Bool) (all : List Candidate) (r : Route) → is_unbeaten test all r ≡ true → is_held all r ≡ is_still_best test all (Some r)
held_kept test all r e = and_true (is_held all r) (is_unbeaten test all r) e

-- the first best candidate is taken where the label is not kept, and is another one
pub best_taken : (test : ℕ → Bool) (all : List Candidate) (place : ℕ) → IsBestUpto test all (length all) place → (label : Option Route) (c : Candidate) →
    is_still_best test all label ≡ false → c ≡ get_or all place c → (chosen_of test all label ≡ Some c.route) × (Some c.route ≢ label)
best_taken test all place best label c kept is = (
  chosen_first test all label kept ∙ first_best_is test all place best c ∙ ap (λ (x : Candidate). Some x.route) (sym is),
  (λ e. true≢false (sym (subst (λ (o : Option Route). is_still_best test all o ≡ true) (ap (λ (x : Candidate). Some x.route) (sym is) ∙ e)
      (best_kept test all place best c)) ∙ kept)),
)
