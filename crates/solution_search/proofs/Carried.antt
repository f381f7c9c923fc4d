-- A candidate, seen from labels that hold the key of its exporter's label.
use Rattle.std.proofs.Common.{◌≡◌, ℕ, ◌<◌, true, false, List, length, Option, Some, None, refl, sym, ap, ◌∙◌, subst, inl, inr, arith}
use Rattle.std.specs.Prelude.{Contains}
use Rattle.std.proofs.lemmas.Bool.{cases_Bool, cases_lt}
use Rattle.std.proofs.lemmas.List.{get_or_past}
use Rattle.base_kit.specs.declared.act_graph.Edge.{Edge}
use Rattle.srp_core.specs.declared.route.Route.{Route}
use Rattle.srp_core.specs.Routes.{preference_of, size_of, path_of, is_on, IsRouteOf, Key}
use Rattle.srp_core.specs.Problem.{Problem, count, number, initial, is_lone, act_of, step_over, is_lone_number, key_of, IsProblem}
use Rattle.srp_core.specs.Stability.{label, AreLabels, IsCandidateOver, IsCandidate, of_init, of_edge, IsStable}
use Rattle.srp_core.specs.Weak.{IsWeaklyStable}
use Rattle.srp_core.proofs.Steps.{step_same, alike_self}
use Rattle.srp_core.proofs.Offers.{IsSupported, label_in, candidate_offer, offer_edge, one_preference, grows, blocked}
use Rattle.srp_core.proofs.Matching.{identity, lone_check}
use Rattle.solution_search.specs.Cases.{HoldsKey}
use Rattle.solution_search.proofs.WeakOrder.{weak_better}

-- a label of a router, of the same preference and smaller
pub record HoldsShorter (P : Problem) (L : List (Option Route)) (u : ℕ) (c : Route) : Type 0 where
  pub route : Route
  pub labelled : label L u ≡ Some route
  pub preference : preference_of route ≡ preference_of c
  pub shorter : size_of route < size_of c

-- over the same edge comes a candidate of that key, or the importer has a shorter label
pub data IsCarriedOver (P : Problem) (L : List (Option Route)) (e : Edge) (c : Route) : Type 0 where
  over_edge : (d : Route) → IsCandidateOver P L e d → key_of P c ≡ key_of P d → IsCarriedOver P L e c
  over_loop : HoldsShorter P L e.importer c → IsCarriedOver P L e c

-- the router has a candidate of that key, or a shorter label
pub data IsCarried (P : Problem) (L : List (Option Route)) (u : ℕ) (c : Route) : Type 0 where
  as_candidate : (d : Route) → IsCandidate P L u d → key_of P c ≡ key_of P d → IsCarried P L u c
  as_shorter : HoldsShorter P L u c → IsCarried P L u c

-- the second labels hold the keys of the first, wherever these have labels
pub record AreKept (P : Problem) (E L : List (Option Route)) : Type 0 where
  pub keys : (u : ℕ) (r : Route) → label E u ≡ Some r → HoldsKey P L u (key_of P r)

module _ (P : Problem) (good : IsProblem P) where
  pub candidate_in : (L : List (Option Route)) (u : ℕ) (c : Route) → IsCandidate P L u c → u < count P
  candidate_in L u c (of_init e) = elim (cases_lt u (length P.init)) [
    | inl h ↦ let t = good.tables.init in omega (arith, h, t)
    | inr h ↦ let none : initial P u ≡ None = get_or_past P.init u None h in absurd (cc)
  ]
  candidate_in L u c (of_edge e i imp over) = subst (λ v. v < count P) imp (good.edges.inside e i).importer_in

  pub label_inside : (L : List (Option Route)) → AreLabels P L → (u : ℕ) (r : Route) → label L u ≡ Some r → u < count P
  label_inside L fits u r e = subst (λ n. u < n) fits.total (label_in L u r e)

  pub stable_weak : (L : List (Option Route)) → IsStable P L → IsWeaklyStable P L
  stable_weak L st = record {
    fitting = st.fitting;
    none = st.none;
    held = st.held;
    best = λ u r c h e cand less. st.best u r c h e cand (weak_better (key_of P c) (key_of P r) less);
  }

  pub weak_supported : (L : List (Option Route)) → IsWeaklyStable P L → IsSupported P L
  weak_supported L w = record { fitting = w.fitting; held = λ u r e. w.held u r (label_inside L w.fitting u r e) e }

  -- an edge makes routes of one key from routes of one key
  pub same_step : (e : Edge) (r s c : Route) → Contains P.edges e → IsRouteOf P.protocol r → IsRouteOf P.protocol s → key_of P r ≡ key_of P s →
      step_over P e r ≡ Some c → (d : Route) × (step_over P e s ≡ Some d) × (key_of P c ≡ key_of P d)
  same_step e r s c i fit fit' k st =
      step_same P.protocol (is_lone_number P) (act_of P e) (act_of P e) (number P e.exporter) (number P e.exporter) r s c fit fit' (alike_self (act_of P e))
      (inr refl) k st

  pub same_preference : (a b : Route) → key_of P a ≡ key_of P b → preference_of a ≡ preference_of b
  same_preference a b k = ap (λ (q : Key). q.preference) k

  pub same_size : (a b : Route) → key_of P a ≡ key_of P b → size_of a ≡ size_of b
  same_size a b k = ap (λ (q : Key). q.size) k

  -- where the loop check of a router that is not lone drops a route, it has a shorter label of that preference
  loop_shorter : (L : List (Option Route)) → IsSupported P L → (e : Edge) (r c : Route) → Contains P.edges e → is_lone P e.importer ≡ false →
      label L e.exporter ≡ Some r → step_over P e r ≡ Some c → is_on (number P e.importer) (path_of c) ≡ true → HoldsShorter P L e.importer c
  loop_shorter L sup e r c i l lab s h =
      let b = blocked P good L sup e r c i lab s h in
      let own = candidate_offer P good L e.importer b.0 sup.fitting (sup.held e.importer b.0 b.1) in
      let other = offer_edge e i refl r (sup.fitting.routes e.exporter r lab) s in
      let g = grows P good e r c i s in
      let less = b.2 in
      record {
        route = b.0;
        labelled = b.1;
        preference = one_preference P good e.importer b.0 c (good.edges.inside e i).importer_in l own other;
        shorter = omega (arith, less, g);
      }

  pub carried_over : (E L : List (Option Route)) → AreLabels P E → IsSupported P L → (e : Edge) (c : Route) → Contains P.edges e →
      (over : IsCandidateOver P E e c) → HoldsKey P L e.exporter (key_of P over.from) → IsCarriedOver P L e c
  carried_over E L fits sup e c i over held =
      let fit = fits.routes e.exporter over.from over.labelled in
      let fit' = sup.fitting.routes e.exporter held.route held.labelled in
      let t = same_step e over.from held.route c i fit fit' (sym held.keyed) over.stepped in
      elim (cases_Bool (is_on (number P e.importer) (path_of t.0))) [
        | inr f ↦ over_edge t.0 (record { from = held.route; labelled = held.labelled; stepped = t.1; passes = f }) t.2
        | inl h ↦ elim (cases_Bool (is_lone P e.importer)) [
          | inr l ↦
              let b = loop_shorter L sup e held.route t.0 i l held.labelled t.1 h in
              let p = same_preference c t.0 t.2 in
              let s = same_size c t.0 t.2 in
              let less = b.shorter in
              over_loop (record { route = b.route; labelled = b.labelled; preference = b.preference ∙ sym p; shorter = omega (arith, less, s) })
          | inl l ↦
              let inside = (good.edges.inside e i).importer_in in
              let same : is_on (number P e.importer) (path_of t.0) ≡ is_on (number P e.importer) (path_of c) =
              lone_check P P (λ u v. u ≡ v × (u < count P)) (identity P good) good good e.importer e.importer c t.0 (refl, inside) l t.2 in
              let passes = over.passes in absurd (cc)
        ]
      ]

  -- a candidate under labels that are kept
  pub carried : (E L : List (Option Route)) → AreLabels P E → IsSupported P L → AreKept P E L → (u : ℕ) (c : Route) → IsCandidate P E u c → IsCarried P L u c
  carried E L fits sup kept u c (of_init e) = as_candidate c (of_init e) refl
  carried E L fits sup kept u c (of_edge e i imp over) =
      by (carried_over E L fits sup e c i over (kept.keys e.exporter over.from over.labelled))
    where
      by : IsCarriedOver P L e c → IsCarried P L u c
      by (over_edge d o k) = as_candidate d (of_edge e i imp o) k
      by (over_loop h) = as_shorter (record {
        route = h.route;
        labelled = subst (λ v. label L v ≡ Some h.route) imp h.labelled;
        preference = h.preference;
        shorter = h.shorter;
      })
