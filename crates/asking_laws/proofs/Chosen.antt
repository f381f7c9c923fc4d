-- What routers that are not lone hold in stable and in weakly stable labels.
use Rattle.std.proofs.Common.{◌≡◌, ◌≢◌, ℕ, ◌<◌, ◌≤◌, false, List, Option, Some, refl, ap, subst, inl, inr, arith}
use Rattle.std.specs.Prelude.{Contains}
use Rattle.std.specs.declared.cmp.Ordering.TheVariants.{Less}
use Rattle.std.proofs.lemmas.Bool.{cases_Bool}
use Rattle.base_kit.specs.declared.act_graph.Edge.{Edge}
use Rattle.route_run.specs.Rounds.{HasNoLone}
use Rattle.srp_core.specs.declared.route.Route.{Route}
use Rattle.srp_core.specs.Problem.{Problem, count, number, initial, step_over, key_of, act_of, IsProblem}
use Rattle.srp_core.specs.Routes.{preference_of, size_of, path_of, is_on, IsRouteOf, Key, compare_keys}
use Rattle.srp_core.specs.Stability.{label, IsCandidate, of_init, of_edge, IsStable}
use Rattle.srp_core.specs.Weak.{IsWeaklyStable}
use Rattle.srp_core.proofs.KeyOrder.{not_longer}
use Rattle.srp_core.proofs.Offers.{Offer, offer_init, offer_edge, AsGood, IsSupported, cases_label, label_in, candidate_offer, one_preference, grows, blocked, candidate_as_good, raw_optimal}
use Rattle.srp_core.proofs.Steps.{step_same, alike_self}
use Rattle.asking_laws.proofs.PlainKeys.{plain, keyed_plain, not_longer_weakly}

-- a label with that key
pub record HasKey (L : List (Option Route)) (u : ℕ) (k : Key) : Type 0 where
  pub route : Route
  pub labelled : label L u ≡ Some route
  pub keyed : plain route ≡ k

-- a label of the preference of the route, and not longer
pub record IsNotLonger (L : List (Option Route)) (u : ℕ) (c : Route) : Type 0 where
  pub route : Route
  pub labelled : label L u ≡ Some route
  pub preferred : preference_of route ≡ preference_of c
  pub size : size_of route ≤ size_of c

-- and the route is not better
pub record IsNotWorse (L : List (Option Route)) (u : ℕ) (c : Route) : Type 0 where
  pub held : IsNotLonger L u c
  pub as_good : compare_keys (plain c) (plain held.route) ≢ Less

-- routes of one key give routes of one key over an edge
pub steps_alike : (P : Problem) (e : Edge) (r s c : Route) → IsRouteOf P.protocol r → IsRouteOf P.protocol s → plain r ≡ plain s → step_over P e r ≡ Some c →
    (d : Route) × (step_over P e s ≡ Some d) × (plain c ≡ plain d)
steps_alike P e r s c fit fit' same stepped = step_same P.protocol (λ n. false) (act_of P e) (act_of P e) (number P e.exporter)
    (number P e.exporter) r s c fit fit'
    (alike_self (act_of P e)) (inr refl) same stepped

module _ (P : Problem) (good : IsProblem P) (none : HasNoLone P) where
  -- ---- stable labels

  module _ (L : List (Option Route)) (st : IsStable P L) where
    pub label_inside : (u : ℕ) (r : Route) → label L u ≡ Some r → u < count P
    label_inside u r e = subst (λ n. u < n) st.fitting.total (label_in L u r e)

    not_worse : (u : ℕ) (c : Route) → u < count P → Offer P u c → AsGood P L u c → IsNotWorse L u c
    not_worse u c inside offer found =
        let own = candidate_offer P good L u found.route st.fitting (st.held u found.route inside found.labelled) in
        let preferred = one_preference P good u found.route c inside (none u inside) own offer in
        record {
          held = record {
            route = found.route;
            labelled = found.labelled;
            preferred = preferred;
            size = not_longer (key_of P found.route) (key_of P c) preferred found.as_good;
          };
          as_good = subst (λ k. compare_keys k (plain found.route) ≢ Less) (keyed_plain P none c)
              (subst (λ k. compare_keys (key_of P c) k ≢ Less) (keyed_plain P none found.route) found.as_good);
        }

    pub stable_from_init : (u : ℕ) (c : Route) → u < count P → initial P u ≡ Some c → IsNotWorse L u c
    stable_from_init u c inside e = not_worse u c inside (offer_init e) (candidate_as_good P good L st u c inside (of_init e))

    pub stable_from_edge : (e : Edge) (r c : Route) → Contains P.edges e → label L e.exporter ≡ Some r → step_over P e r ≡ Some c → IsNotWorse L e.importer c
    stable_from_edge e r c i lab s =
        let inside = (good.edges.inside e i).importer_in in
        not_worse e.importer c inside (offer_edge e i refl r (st.fitting.routes e.exporter r lab) s)
        (raw_optimal P good L st e r c i (none e.importer inside) lab s)

  -- ---- weakly stable labels

  module _ (L : List (Option Route)) (st : IsWeaklyStable P L) where
    pub weak_label_inside : (u : ℕ) (r : Route) → label L u ≡ Some r → u < count P
    weak_label_inside u r e = subst (λ n. u < n) st.fitting.total (label_in L u r e)

    pub weak_supported : IsSupported P L
    weak_supported = record { fitting = st.fitting; held = λ u r e. st.held u r (weak_label_inside u r e) e }

    not_longer_than : (u : ℕ) (c : Route) → u < count P → IsCandidate P L u c → IsNotLonger L u c
    not_longer_than u c inside candidate = elim (cases_label (label L u)) [
      | inl empty ↦ absurd (st.none u c inside empty candidate)
      | inr full ↦ (
          let own = candidate_offer P good L u full.0 st.fitting (st.held u full.0 inside full.1) in
          let offer = candidate_offer P good L u c st.fitting candidate in
          let preferred = one_preference P good u full.0 c inside (none u inside) own offer in
          record {
            route = full.0;
            labelled = full.1;
            preferred = preferred;
            size = not_longer_weakly (key_of P full.0) (key_of P c) preferred (st.best u full.0 c inside full.1 candidate);
          })
    ]

    pub weak_from_init : (u : ℕ) (c : Route) → u < count P → initial P u ≡ Some c → IsNotLonger L u c
    weak_from_init u c inside e = not_longer_than u c inside (of_init e)

    -- where the loop check drops a route, the router has a shorter label
    pub weak_from_edge : (e : Edge) (r c : Route) → Contains P.edges e → label L e.exporter ≡ Some r → step_over P e r ≡ Some c → IsNotLonger L e.importer c
    weak_from_edge e r c i lab s =
        let inside = (good.edges.inside e i).importer_in in
        elim (cases_Bool (is_on (number P e.importer) (path_of c))) [
          | inr passes ↦ not_longer_than e.importer c inside (of_edge e i refl (record { from = r; labelled = lab; stepped = s; passes = passes }))
          | inl dropped ↦ (
              let b = blocked P good L weak_supported e r c i lab s dropped in
              let own = candidate_offer P good L e.importer b.0 st.fitting (weak_supported.held e.importer b.0 b.1) in
              let offer : Offer P e.importer c = offer_edge e i refl r (st.fitting.routes e.exporter r lab) s in
              let g = grows P good e r c i s in
              let less = b.2 in
              record {
                route = b.0;
                labelled = b.1;
                preferred = one_preference P good e.importer b.0 c inside (none e.importer inside) own offer;
                size = omega arith;
              })
        ]

  -- ---- the loop check

  -- in labels of which each is a candidate, a route as long as the label of the router passes the check
  pub passes_check : (L : List (Option Route)) → IsSupported P L → (e : Edge) (r c own : Route) → Contains P.edges e → label L e.exporter ≡ Some r →
      step_over P e r ≡ Some c → label L e.importer ≡ Some own → size_of c ≤ size_of own → is_on (number P e.importer) (path_of c) ≡ false
  passes_check L sup e r c own i lab s held long = elim (cases_Bool (is_on (number P e.importer) (path_of c))) [
    | inr passes ↦ passes
    | inl dropped ↦ (
        let b = blocked P good L sup e r c i lab s dropped in
        let same : b.0 ≡ own = (let there = b.1 in cc) in
        let size : size_of b.0 ≡ size_of own = ap size_of same in
        let g = grows P good e r c i s in
        let less = b.2 in
        absurd (omega arith))
  ]
