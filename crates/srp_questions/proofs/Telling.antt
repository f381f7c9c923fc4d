-- Tests of routers, and what they tell.
use Rattle.std.proofs.Common.{◌≡◌, ◌≢◌, ◌⊎◌, ℕ, ◌<◌, Bool, true, false, not, ◌&&◌, ◌||◌, cond, All, List, [], ◌∷◌, map, get_or, Option, Some, None, is_some, refl, sym, ap, ◌∙◌, subst, arith, inl, inr, true≢false}
use Rattle.std.specs.Prelude.{Contains, MatchBool, nat_le, nat_eq}
use Rattle.std.specs.List.{list_all}
use Rattle.std.proofs.lemmas.Bool.{cases_Bool, and_parts, or_cases, eqb-true, leb-true, le-leb}
use Rattle.std.proofs.lemmas.List.{get_or-map}
use Rattle.std.proofs.lemmas.List.Elements.{All-contains}
use Rattle.base_kit.specs.Sets.{has}
use Rattle.base_kit.proofs.Elements.{In, contains_in, in_contains}
use Rattle.base_kit.proofs.SetFacts.{same_number}
use Rattle.by_key.proofs.KeyedItems.{all_from}
use Rattle.srp_core.specs.declared.route.Route.{Route}
use Rattle.srp_core.specs.Routes.{comms_of}
use Rattle.srp_core.specs.Problem.{Problem, count, initial, IsProblem}
use Rattle.srp_core.specs.Stability.{label}
use Rattle.srp_questions.specs.Chains.{end_of}
use Rattle.srp_questions.specs.Holding.{holds_community, lacks_community}
use Rattle.srp_questions.specs.Questions.{IsWithinHops, PassesThrough, StaysOff, HoldsCommunity, LacksCommunity}
use Rattle.srp_questions.specs.Walks.{IsLongest, is_marked, Reaches}
use Rattle.srp_questions.proofs.ChainFacts.{chain_inside, end_in, chain_to}
use Rattle.srp_questions.proofs.WalkSteps.{told_by, told_true, true_told}

-- ---- tests of all routers of a list

all_true : (test : ℕ → Bool) (xs : List ℕ) (u : ℕ) → list_all test xs ≡ true → In xs u → test u ≡ true
all_true test [] u e i = absurd i
all_true test (x ∷ xs) u e (inl same) = ap test (sym same) ∙ (and_parts (test x) (list_all test xs) e).0
all_true test (x ∷ xs) u e (inr later) = all_true test xs u (and_parts (test x) (list_all test xs) e).1 later

true_all : (test : ℕ → Bool) (xs : List ℕ) → ((u : ℕ) → In xs u → test u ≡ true) → list_all test xs ≡ true
true_all test [] each = refl
true_all test (x ∷ xs) each = ap (λ (b : Bool). b && list_all test xs) (each x (inl refl)) ∙ true_all test xs (λ u i. each u (inr i))

pub told : (test : ℕ → Bool) (Q : ℕ → Type 0) (xs : List ℕ) (b : Bool) → b ≡ list_all test xs →
    ((u : ℕ) → In xs u → MatchBool (test u) (Q u) (¬ Q u)) → MatchBool b (All Q xs) (¬ All Q xs)
told test Q xs b is each = told_by b (All Q xs)
    (λ e. all_from Q xs (λ u i. told_true (test u) (Q u) (each u i) (all_true test xs u (sym is ∙ e) i)))
    (λ all. is ∙ true_all test xs (λ u i. true_told (test u) (Q u) (each u i) (All-contains Q xs u all (contains_in xs u i))))

-- ---- one label

pub routed : (o : Option Route) → MatchBool (is_some o) (o ≢ None) (¬ (o ≢ None))
routed None = λ h. h refl
routed (Some r) = λ h. (let e : Some r ≡ None = h in cc)

pub unrouted : (o : Option Route) → MatchBool (not (is_some o)) (o ≡ None) (¬ (o ≡ None))
unrouted None = refl
unrouted (Some r) = λ h. (let e : Some r ≡ None = h in cc)

has_in : (xs : List ℕ) (c : ℕ) → In xs c → has xs c ≡ true
has_in [] c i = absurd i
has_in (x ∷ xs) c (inl e) = rw (same_number x c e) refl
has_in (x ∷ xs) c (inr later) = by (nat_eq x c) (has_in xs c later)
  where
    by : (b : Bool) → has xs c ≡ true → (b || has xs c) ≡ true
    by true e = refl
    by false e = e

in_has : (xs : List ℕ) (c : ℕ) → has xs c ≡ true → In xs c
in_has [] c e = absurd (true≢false (sym e))
in_has (x ∷ xs) c e = elim (or_cases (nat_eq x c) (has xs c) e) [
  | inl first ↦ inl (eqb-true x c first)
  | inr later ↦ inr (in_has xs c later)
]

pub has_told : (xs : List ℕ) (c : ℕ) → MatchBool (has xs c) (Contains xs c) (¬ Contains xs c)
has_told xs c = told_by (has xs c) (Contains xs c) (λ e. contains_in xs c (in_has xs c e)) (λ i. has_in xs c (in_contains xs c i))

pub holding : (L : List (Option Route)) (c u : ℕ) (o : Option Route) → label L u ≡ o →
    MatchBool (holds_community c o) (HoldsCommunity L c u) (¬ HoldsCommunity L c u)
holding L c u None none = λ r e. absurd (cc)
holding L c u (Some r) some = told_by (has (comms_of r) c) (HoldsCommunity L c u)
    (λ e s f. (let one : r ≡ s = cc in subst (λ (x : Route). Contains (comms_of x) c) one
    (told_true (has (comms_of r) c) (Contains (comms_of r) c) (has_told (comms_of r) c) e)))
    (λ all. true_told (has (comms_of r) c) (Contains (comms_of r) c) (has_told (comms_of r) c) (all r some))

pub lacking : (L : List (Option Route)) (c u : ℕ) (o : Option Route) → label L u ≡ o →
    MatchBool (lacks_community c o) (LacksCommunity L c u) (¬ LacksCommunity L c u)
lacking L c u None none = λ r e. absurd (cc)
lacking L c u (Some r) some = by (has (comms_of r) c) (has_told (comms_of r) c)
  where
    by : (b : Bool) → MatchBool b (Contains (comms_of r) c) (¬ Contains (comms_of r) c) → MatchBool (not b) (LacksCommunity L c u) (¬ LacksCommunity L c u)
    by true holds = λ all. all r some holds
    by false lacks = λ s f holds. (let one : s ≡ r = cc in lacks (subst (λ (x : Route). Contains (comms_of x) c) one holds))

-- ---- chains

pub within : (P : Problem) (L : List (Option Route)) (u most hops : ℕ) → IsLongest P L u hops →
    MatchBool (nat_le hops most) (IsWithinHops P L most u) (¬ IsWithinHops P L most u)
within P L u most hops is = told_by (nat_le hops most) (IsWithinHops P L most u)
    (λ e behind chain. (let le = leb-true hops most e in let l = is.longest behind chain in omega (arith, le, l)))
    (λ all. (let l = all is.behind is.chain in let e = is.long in le-leb hops most (omega (arith, l, e))))

-- one of these is in the list, or none is
some_of : (way xs : List ℕ) → ((w : ℕ) × In way w × In xs w) ⊎ ((v : ℕ) → In xs v → has way v ≡ false)
some_of way [] = inr (λ v i. absurd i)
some_of way (x ∷ xs) = elim (cases_Bool (has way x)) [
  | inl there ↦ inl (x, in_has way x there, inl refl)
  | inr lacking ↦ elim (some_of way xs) [
    | inl later ↦ inl (later.0, later.1, inr later.2)
    | inr none ↦ inr (λ v i. elim i [ inl e ↦ ap (has way) (sym e) ∙ lacking | inr j ↦ none v j ])
  ]
]

not_some : (o : Option Route) → is_some o ≡ true → o ≢ None
not_some None e = absurd (true≢false (sym e))
not_some (Some r) e = λ h. (let x : Some r ≡ None = h in cc)

some_is : (o : Option Route) → o ≢ None → is_some o ≡ true
some_is None h = absurd (h refl)
some_is (Some r) h = refl

turned : (b : Bool) (Q S : Type 0) → MatchBool b Q (¬ Q) → (S → ¬ Q) → (¬ Q → S) → MatchBool (not b) S (¬ S)
turned true Q S is to from = λ s. to s is
turned false Q S is to from = from is

module _ (P : Problem) (good : IsProblem P) (L : List (Option Route)) (way : List ℕ) (u : ℕ) (inside : u < count P) where
  pub around : (others origins : List Bool) → ((v : ℕ) → v < count P → is_marked others v ≡ cond (has way v) false true) → origins ≡ map is_some P.init →
      (b : Bool) → MatchBool b (Reaches P L others origins u) (¬ Reaches P L others origins u) →
      MatchBool (not b) (PassesThrough P L way u) (¬ PassesThrough P L way u)
  around others origins other origin b reaches = turned b (Reaches P L others origins u) (PassesThrough P L way u) reaches
      (λ passes r. (
      let last = chain_inside P good L u r.behind inside r.chain (end_of u r.behind) (end_in u r.behind) in
      let m = passes r.behind r.chain (not_some (initial P (end_of u r.behind)) (sym (is_origin (end_of u r.behind) last) ∙ r.ends)) in
      let there = has_in way m.met (in_contains way m.met m.wanted) in
      let on = chain_inside P good L u r.behind inside r.chain m.met (in_contains (u ∷ r.behind) m.met m.on_chain) in
      let closed : is_marked others m.met ≡ false = other m.met on ∙ ap (λ (c : Bool). cond c false true) there in
      true≢false (sym (r.through m.met m.on_chain) ∙ closed)))
      (λ none behind chain ends. elim (some_of way (u ∷ behind)) [
        | inl some ↦ record { met = some.0; wanted = contains_in way some.0 some.1; on_chain = contains_in (u ∷ behind) some.0 some.2 }
        | inr free ↦ absurd (none (record {
          behind = behind;
          chain = chain;
          through = λ v c. (
              let i = in_contains (u ∷ behind) v c in
              other v (chain_inside P good L u behind inside chain v i) ∙ ap (λ (d : Bool). cond d false true) (free v i));
          ends =
              is_origin (end_of u behind) (chain_inside P good L u behind inside chain (end_of u behind) (end_in u behind))
              ∙ some_is (initial P (end_of u behind)) ends;
        }))
      ])
    where
      is_origin : (v : ℕ) → v < count P → is_marked origins v ≡ is_some (initial P v)
      is_origin v among = ap (λ (l : List Bool). get_or l v false) origin
          ∙ get_or-map is_some P.init v None false (let t = good.tables.init in omega (arith, among, t))

  pub off : (all goals : List Bool) → ((v : ℕ) → v < count P → is_marked all v ≡ true) →
      ((v : ℕ) → v < count P → is_marked goals v ≡ cond (has way v) true false) →
      (b : Bool) → MatchBool b (Reaches P L all goals u) (¬ Reaches P L all goals u) → MatchBool (not b) (StaysOff P L way u) (¬ StaysOff P L way u)
  off all goals every goal b reaches = turned b (Reaches P L all goals u) (StaysOff P L way u) reaches
      (λ stays r. (
      let last = chain_inside P good L u r.behind inside r.chain (end_of u r.behind) (end_in u r.behind) in
      let there = by (has way (end_of u r.behind)) (sym (goal (end_of u r.behind) last) ∙ r.ends) in
      stays r.behind r.chain (record {
        met = end_of u r.behind;
        wanted = contains_in way (end_of u r.behind) (in_has way (end_of u r.behind) there);
        on_chain = contains_in (u ∷ r.behind) (end_of u r.behind) (end_in u r.behind);
      })))
      (λ none behind chain m. (
      let i = in_contains (u ∷ behind) m.met m.on_chain in
      let t = chain_to P L u behind chain m.met i in
      let on = chain_inside P good L u behind inside chain m.met i in
      let there = has_in way m.met (in_contains way m.met m.wanted) in
      none (record {
        behind = t.behind;
        chain = t.chain;
        through = λ v c. every v (chain_inside P good L u t.behind inside t.chain v (in_contains (u ∷ t.behind) v c));
        ends = ap (is_marked goals) t.ends ∙ goal m.met on ∙ ap (λ (c : Bool). cond c true false) there;
      })))
    where
      by : (c : Bool) → cond c true false ≡ true → c ≡ true
      by true e = refl
      by false e = absurd (true≢false (sym e))
