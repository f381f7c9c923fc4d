-- Labels of a problem are stable, or a first router breaks stability: which of the two is decided.
--
-- 1. Two labels are equal or not, and a list has a candidate that passes a test or has none.
-- 2. A router holds a best candidate, or breaks stability for one of the four reasons.
-- 3. So all routers hold one, or there is a first that does not.
use Rattle.std.proofs.Common.{◌≡◌, ◌⊎◌, inl, inr, ℕ, zero, suc, ◌<◌, ◌≤◌, true, List, [], ◌∷◌, refl, sym, ap, ◌∙◌, subst, arith, Option, Some, None}
use Rattle.std.specs.Prelude.{Contains, bytes_eq}
use Rattle.std.specs.declared.cmp.Ordering.{Ordering}
use Rattle.std.specs.declared.cmp.Ordering.TheVariants.{Less, Equal, Greater}
use Rattle.std.proofs.lemmas.Bool.{cases_Bool, cases_eq}
use Rattle.std.proofs.lemmas.Slice.Eq.{bytes_eq-Decides}
use Rattle.base_kit.specs.declared.protocol.Protocol.{Protocol}
use Rattle.base_kit.specs.declared.protocol.Protocol.TheVariants.{Bgp as OverBgp, Ospf as OverOspf}
use Rattle.base_kit.proofs.Elements.{In, contains_in, in_contains}
use Rattle.srp_core.specs.declared.route.Candidate.{Candidate}
use Rattle.srp_core.specs.declared.route.Route.{Route}
use Rattle.srp_core.specs.declared.route.Route.TheVariants.{Bgp, Ospf}
use Rattle.srp_core.specs.Candidates.{candidates}
use Rattle.srp_core.specs.Problem.{Problem, count, initial, key_of}
use Rattle.srp_core.specs.Routes.{preference_of, size_of, path_of, comms_of, compare_keys}
use Rattle.srp_core.specs.Stability.{label, AreLabels, IsCandidate}
use Rattle.solution_check.specs.declared.judgement.Answer.{Answer}
use Rattle.solution_check.specs.declared.judgement.Answer.TheVariants.{Stable, Not}
use Rattle.solution_check.specs.Breaks.{BreaksBy, HasWrongOrigin, HoldsBest, IsFirstBreak, Judges}
use Rattle.solution_check.specs.Breaks.BreaksBy.{better_candidate, none_with_candidate, not_a_candidate, wrong_origin}

abbrev pub Dec : Type 0 → Type 0
Dec A = A ⊎ ¬ A

-- ---- labels

dec_list : (xs ys : List ℕ) → Dec (xs ≡ ys)
dec_list xs ys = elim (cases_Bool (bytes_eq xs ys)) [
  | inl same ↦ inl ((bytes_eq-Decides xs ys).0 same)
  | inr differ ↦ inr (λ e. (let same : bytes_eq xs ys ≡ true = sym (sym ((bytes_eq-Decides xs ys).1 e)) in cc))
]

dec_route : (r s : Route) → Dec (r ≡ s)
dec_route (Bgp lp path comms) (Bgp lp' path' comms') = by (cases_eq lp lp') (dec_list path path') (dec_list comms comms')
  where
    by : Dec (lp ≡ lp') → Dec (path ≡ path') → Dec (comms ≡ comms') → Dec (Bgp lp path comms ≡ Bgp lp' path' comms')
    by (inl a) (inl b) (inl c) = inl (λ j. Bgp (a j) (b j) (c j))
    by (inr never) b c = inr (λ e. never (ap preference_of e))
    by (inl a) (inr never) c = inr (λ e. never (ap path_of e))
    by (inl a) (inl b) (inr never) = inr (λ e. never (ap comms_of e))
dec_route (Bgp lp path comms) (Ospf cost) = inr (λ e. cc)
dec_route (Ospf cost) (Bgp lp path comms) = inr (λ e. cc)
dec_route (Ospf cost) (Ospf other) = by (cases_eq cost other)
  where
    by : Dec (cost ≡ other) → Dec (Ospf cost ≡ Ospf other)
    by (inl a) = inl (λ j. Ospf (a j))
    by (inr never) = inr (λ e. never (ap size_of e))

pub dec_label : (a b : Option Route) → Dec (a ≡ b)
dec_label None None = inl refl
dec_label None (Some s) = inr (λ e. cc)
dec_label (Some r) None = inr (λ e. cc)
dec_label (Some r) (Some s) = by (dec_route r s)
  where
    one : Some r ≡ Some s → r ≡ s
    one e = cc

    by : Dec (r ≡ s) → Dec (Some r ≡ Some s)
    by (inl same) = inl (λ j. Some (same j))
    by (inr never) = inr (λ e. never (one e))

dec_less : (o : Ordering) → Dec (o ≡ Less)
dec_less Less = inl refl
dec_less Equal = inr (λ e. cc)
dec_less Greater = inr (λ e. cc)

-- ---- candidates

in_list : (A : Candidate → Type 0) → ((c : Candidate) → Dec (A c)) → (cs : List Candidate) → Dec ((c : Candidate) × In cs c × A c)
in_list A dec [] = inr (λ found. found.1)
in_list A dec (c ∷ cs) = by (dec c) (in_list A dec cs)
  where
    none : ¬ A c → ¬ ((d : Candidate) × In cs d × A d) → (d : Candidate) → In (c ∷ cs) d → A d → ⊥
    none here rest d (inl same) holds = here (subst A (sym same) holds)
    none here rest d (inr i) holds = rest (d, i, holds)

    by : Dec (A c) → Dec ((d : Candidate) × In cs d × A d) → Dec ((d : Candidate) × In (c ∷ cs) d × A d)
    by (inl here) rest = inl (c, inl refl, here)
    by (inr never) (inl found) = inl (found.0, inr found.1, found.2)
    by (inr never) (inr rest) = inr (λ found. none never rest found.0 found.1 found.2)

abbrev pub IsSound : Type 0
IsSound = (problem : Problem) (labels : List (Option Route)) (u : ℕ) (candidate : Candidate) → Contains (candidates problem labels u) candidate
    → IsCandidate problem labels u candidate.route

abbrev pub IsComplete : Type 0
IsComplete = (problem : Problem) (labels : List (Option Route)) (u : ℕ) (route : Route) → IsCandidate problem labels u route
    → (candidate : Candidate) × Contains (candidates problem labels u) candidate × (candidate.route ≡ route)

module _ (sound : IsSound) (complete : IsComplete) (P : Problem) (L : List (Option Route)) where
  module _ (u : ℕ) where
    abbrev IsIt : Route → Type 0
    IsIt route = IsCandidate P L u route

    is_one : (c : Candidate) → In (candidates P L u) c → IsIt c.route
    is_one c i = sound P L u c (contains_in (candidates P L u) c i)

    -- no candidate passes a test if none of the list does
    none_passes : (A : Route → Type 0) → ¬ ((c : Candidate) × In (candidates P L u) c × A c.route) → (route : Route) → IsIt route → A route → ⊥
    none_passes A none route is holds =
        let k = complete P L u route is in
        none (k.0, in_contains (candidates P L u) k.0 k.1, subst A (sym k.2) holds)

    -- ---- a router

    origin_by : (protocol : Protocol) → P.protocol ≡ protocol → (start : Option Route) → initial P u ≡ start → Dec (HasWrongOrigin P L u)
    origin_by OverBgp over (Some r) starts = by (dec_label (label L u) (Some r))
      where
        by : Dec (label L u ≡ Some r) → Dec (HasWrongOrigin P L u)
        by (inl same) = inr (λ w. w.other (same ∙ sym starts ∙ w.starts))
        by (inr other) = inl (record { protocol = over; route = r; starts = starts; other = other })
    origin_by OverBgp over None starts = inr (λ w. (let some = w.starts in cc))
    origin_by OverOspf over start starts = inr (λ w. (let bgp = w.protocol in cc))

    abbrev IsDecided : Type 0
    IsDecided = HoldsBest P L u ⊎ ((why : ℕ) × BreaksBy P L u why)

    of_none : ¬ HasWrongOrigin P L u → label L u ≡ None → Dec ((c : Candidate) × In (candidates P L u) c × Unit {0}) → IsDecided
    of_none right none (inl found) =
        inr (4, none_with_candidate right (record { none = none; candidate = found.0.route; is_candidate = is_one found.0 found.1 }))
    of_none right none (inr never) = inl (record {
      none = λ c e is. none_passes (λ r. Unit {0}) never c is tt;
      held = λ r e. absurd (let other : None ≡ Some r = sym none ∙ e in cc);
      best = λ r c e is less. (let other : None ≡ Some r = sym none ∙ e in cc);
    })

    of_some : ¬ HasWrongOrigin P L u → (r : Route) → label L u ≡ Some r → Dec ((c : Candidate) × In (candidates P L u) c × (c.route ≡ r))
        → Dec ((c : Candidate) × In (candidates P L u) c × (compare_keys (key_of P c.route) (key_of P r) ≡ Less)) → IsDecided
    of_some right r is (inr never) better =
        inr (2, not_a_candidate right (record { route = r; labelled = is; other = λ cand. none_passes (λ s. s ≡ r) never r cand refl }))
    of_some right r is (inl found) (inl b) =
        let held : IsIt r = subst IsIt found.2 (is_one found.0 found.1) in
        inr (
          3,
          better_candidate right (λ w. w.other (subst IsIt (let same : Some r ≡ Some w.route =
              sym is ∙ w.labelled in (let one : r ≡ w.route = cc in one)) held))
              (record { route = r; labelled = is; candidate = b.0.route; is_candidate = is_one b.0 b.1; beats = b.2 }),
        )
    of_some right r is (inl found) (inr never) =
        let held : IsIt r = subst IsIt found.2 (is_one found.0 found.1) in
        inl (record {
          none = λ c e cand. (let other : Some r ≡ None = sym is ∙ e in cc);
          held = λ s e. subst IsIt (let same : Some r ≡ Some s = sym is ∙ e in (let one : r ≡ s = cc in one)) held;
          best = λ s c e cand less. (
              let same : Some r ≡ Some s = sym is ∙ e in
              let one : s ≡ r = cc in
              none_passes (λ t. compare_keys (key_of P t) (key_of P r) ≡ Less) never c cand
              (subst (λ t. compare_keys (key_of P c) (key_of P t) ≡ Less) one less));
        })

    of_label : ¬ HasWrongOrigin P L u → (held : Option Route) → label L u ≡ held → IsDecided
    of_label right None is = of_none right is (in_list (λ c. Unit {0}) (λ c. inl tt) (candidates P L u))
    of_label right (Some r) is =
        of_some right r is (in_list (λ c. c.route ≡ r) (λ c. dec_route c.route r) (candidates P L u))
        (in_list (λ c. compare_keys (key_of P c.route) (key_of P r) ≡ Less) (λ c. dec_less (compare_keys (key_of P c.route) (key_of P r))) (candidates P L u))

    decided : IsDecided
    decided = elim (origin_by P.protocol refl (initial P u) refl) [
      | inl wrong ↦ inr (1, wrong_origin wrong)
      | inr right ↦ of_label right (label L u) refl
    ]

  -- ---- all routers

  abbrev IsSomeBreak : Type 0
  IsSomeBreak = (router : ℕ) × (why : ℕ) × IsFirstBreak P L router why

  up_to : (n : ℕ) → n ≤ count P → ((v : ℕ) → v < n → HoldsBest P L v) ⊎ IsSomeBreak
  up_to zero le = inl (λ v less. absurd (omega (arith, less)))
  up_to (suc n) le = by (up_to n (omega (arith, le))) (decided n)
    where
      each : ((v : ℕ) → v < n → HoldsBest P L v) → HoldsBest P L n → (v : ℕ) → v < suc n → HoldsBest P L v
      each before here v less = elim (cases_eq v n) [ inl same ↦ subst (HoldsBest P L) (sym same) here | inr differ ↦ before v (omega (arith, less, differ)) ]

      by : ((v : ℕ) → v < n → HoldsBest P L v) ⊎ IsSomeBreak → IsDecided n → ((v : ℕ) → v < suc n → HoldsBest P L v) ⊎ IsSomeBreak
      by (inr found) here = inr found
      by (inl before) (inl holds) = inl (each before holds)
      by (inl before) (inr breaks) = inr (n, breaks.0, record { inside = omega (arith, le); before = before; breaks = breaks.1 })

  pub is_judged : AreLabels P L → (a : Answer) × Judges P L a
  is_judged fitting = elim (up_to (count P) (omega arith)) [
    | inl all ↦ (
      Stable,
      record {
        fitting = fitting;
        none = λ u c inside e. (all u inside).none c e;
        held = λ u r inside e. (all u inside).held r e;
        best = λ u r c inside e is. (all u inside).best r c e is;
      },
    )
    | inr found ↦ (Not found.0 found.1, found.2)
  ]
