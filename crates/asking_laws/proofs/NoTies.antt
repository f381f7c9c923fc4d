-- Weakly stable labels where no router is lone and there is no tie.
use Rattle.std.proofs.Common.{◌≡◌, ℕ, zero, suc, ◌<◌, ◌≤◌, List, [], ◌∷◌, Option, Some, refl, sym, ap, ◌∙◌, subst, inl, inr, arith}
use Rattle.route_run.specs.Rounds.{HasNoLone}
use Rattle.srp_core.specs.declared.route.Route.{Route}
use Rattle.srp_core.specs.Problem.{Problem, count, key_of, IsProblem}
use Rattle.srp_core.specs.Routes.{preference_of, size_of}
use Rattle.srp_core.specs.Solutions.{HaveEqualKeys, HasMemberAsWeak, HoldsHoweverTiesBreak}
use Rattle.srp_core.specs.Stability.{label, IsCandidateOver, IsCandidate, of_init, of_edge, IsStable, both_none, both_some, ForwardsTo}
use Rattle.srp_core.specs.Weak.{IsWeaklyStable, ForwardsWeaklyTo}
use Rattle.srp_core.proofs.Offers.{cases_label, grows, stable_supported}
use Rattle.asking_laws.specs.Spare.{HasNoTie}
use Rattle.asking_laws.proofs.PlainKeys.{plain, keyed_plain, weakly_equal, weak_parts}
use Rattle.asking_laws.proofs.Chosen.{HasKey, IsNotLonger, steps_alike, label_inside, stable_from_init, stable_from_edge, weak_label_inside, weak_supported, weak_from_init, weak_from_edge, passes_check}
use Rattle.asking_laws.proofs.Both.{HaveKeysOf, carried, sizes, preferences}

module _ (P : Problem) (good : IsProblem P) (none : HasNoLone P) (L : List (Option Route)) (st : IsStable P L) (tie : HasNoTie P L) where
  -- a candidate with the preference and the size of the label has its key
  pub untied : (u : ℕ) (r c : Route) → label L u ≡ Some r → IsCandidate P L u c → preference_of c ≡ preference_of r → size_of c ≡ size_of r → plain c ≡ plain r
  untied u r c lab candidate preference size =
      sym (keyed_plain P none c) ∙ tie.same u r c lab candidate (weakly_equal (key_of P c) (key_of P r) preference size) ∙ keyed_plain P none r

  -- a route of the given key that the router is offered in the labels, and takes unless it holds a shorter one
  record IsOffered (u : ℕ) (m : Route) : Type 0 where
    route : Route
    keyed : plain route ≡ plain m
    held : IsNotLonger L u route
    candidate : size_of route ≤ size_of held.route → IsCandidate P L u route

  module _ (M : List (Option Route)) (weak : IsWeaklyStable P M) where
    record Below (n : ℕ) : Type 0 where
      above : (u : ℕ) (r : Route) → size_of r < n → label L u ≡ Some r → HasKey M u (plain r)
      below : (u : ℕ) (m : Route) → size_of m < n → label M u ≡ Some m → HasKey L u (plain m)

    half_above : (n : ℕ) → Below n → (u : ℕ) (r : Route) → size_of r < suc n → u < count P → IsCandidate P L u r →
        (c : Route) × (plain c ≡ plain r) × IsNotLonger M u c
    half_above n b u r less inside (of_init e) = (r, refl, weak_from_init P good none M weak u r inside e)
    half_above n b u r less inside (of_edge e i imp over) =
        let g = grows P good e over.from r i over.stepped in
        let h = b.above e.exporter over.from (omega arith) over.labelled in
        let t = steps_alike P e over.from h.route r (st.fitting.routes e.exporter over.from over.labelled)
        (weak.fitting.routes e.exporter h.route h.labelled) (sym h.keyed) over.stepped in
        (t.0, sym t.2, subst (λ v. IsNotLonger M v t.0) imp (weak_from_edge P good none M weak e h.route t.0 i h.labelled t.1))

    half_below : (n : ℕ) → Below n → (u : ℕ) (m : Route) → size_of m < suc n → u < count P → IsCandidate P M u m → IsOffered u m
    half_below n b u m less inside (of_init e) =
        record { route = m; keyed = refl; held = (stable_from_init P good none L st u m inside e).held; candidate = λ le. of_init e }
    half_below n b u m less inside (of_edge e i imp over) =
        let g = grows P good e over.from m i over.stepped in
        let h = b.below e.exporter over.from (omega arith) over.labelled in
        let t = steps_alike P e over.from h.route m (weak.fitting.routes e.exporter over.from over.labelled)
        (st.fitting.routes e.exporter h.route h.labelled) (sym h.keyed) over.stepped in
        subst (λ v. IsOffered v m) imp (record {
          route = t.0;
          keyed = sym t.2;
          held = (stable_from_edge P good none L st e h.route t.0 i h.labelled t.1).held;
          candidate = λ le. of_edge e i refl (record {
            from = h.route;
            labelled = h.labelled;
            stepped = t.1;
            passes = passes_check P good none L (stable_supported P good L st) e h.route t.0
                (stable_from_edge P good none L st e h.route t.0 i h.labelled t.1).held.route i h.labelled t.1
                (stable_from_edge P good none L st e h.route t.0 i h.labelled t.1).held.labelled le;
          });
        })

    -- a weakly stable label has the key of the stable one
    step_below : (n : ℕ) → Below n → (u : ℕ) (m : Route) → size_of m < suc n → label M u ≡ Some m → HasKey L u (plain m)
    step_below n b u m less lab =
        let inside = weak_label_inside P good none M weak u m lab in
        let o = half_below n b u m less inside (weak.held u m inside lab) in
        let r = o.held.route in
        let short = o.held.size in
        let long = sizes o.route m o.keyed in
        let a = half_above n b u r (omega arith) inside (st.held u r inside o.held.labelled) in
        let same : a.2.route ≡ m = (let there = a.2.labelled in cc) in
        let back : size_of m ≤ size_of a.0 = subst (λ s. size_of s ≤ size_of a.0) same a.2.size in
        let long' = sizes a.0 r a.1 in
        let equal = untied u r o.route o.held.labelled (o.candidate (omega arith)) (sym o.held.preferred) (omega arith) in
        record { route = r; labelled = o.held.labelled; keyed = sym equal ∙ o.keyed }

    step_above : (n : ℕ) → Below n → (u : ℕ) (r : Route) → size_of r < suc n → label L u ≡ Some r → HasKey M u (plain r)
    step_above n b u r less lab =
        let inside = label_inside P good none L st u r lab in
        let a = half_above n b u r less inside (st.held u r inside lab) in
        let long = sizes a.0 r a.1 in
        let short = a.2.size in
        let h = step_below n b u a.2.route (omega arith) a.2.labelled in
        let same : h.route ≡ r = (let there = h.labelled in cc) in
        record { route = a.2.route; labelled = a.2.labelled; keyed = sym (sym (ap plain same) ∙ h.keyed) }

    all_below : (n : ℕ) → Below n
    all_below zero = record { above = λ u r less lab. absurd (omega arith); below = λ u m less lab. absurd (omega arith) }
    all_below (suc n) = record { above = step_above n (all_below n); below = step_below n (all_below n) }

    kept : HaveKeysOf L M
    kept = record { there = λ u r lab. (all_below (suc (size_of r))).above u r (omega arith) lab }

    come : HaveKeysOf M L
    come = record { there = λ u m lab. (all_below (suc (size_of m))).below u m (omega arith) lab }

    weak_keys : HaveEqualKeys P M L
    weak_keys u inside = elim (cases_label (label M u)) [
      | inr full ↦ (
          let h = come.there u full.0 full.1 in
          both_some full.0 h.route full.1 h.labelled (keyed_plain P none full.0 ∙ sym h.keyed ∙ sym (keyed_plain P none h.route)))
      | inl empty ↦ elim (cases_label (label L u)) [
        | inl missing ↦ both_none empty missing
        | inr some ↦ absurd (let h = kept.there u some.0 some.1 in let there = h.labelled in cc)
      ]
    ]

    forwards : (u v : ℕ) → ForwardsWeaklyTo P M u v → ForwardsTo P L u v
    forwards u v f =
        let own = come.there u f.route f.labelled in
        let t = carried P P refl f.edge (λ r. refl) M L weak.fitting st.fitting come f.over.from f.candidate f.over.labelled f.over.stepped in
        let parts = weak_parts (key_of P f.candidate) (key_of P f.route) f.same in
        let size : size_of t.route ≡ size_of own.route = sizes t.route f.candidate t.keyed ∙ parts.1 ∙ sym (sizes own.route f.route own.keyed) in
        let preference : preference_of t.route ≡ preference_of own.route =
        preferences t.route f.candidate t.keyed ∙ parts.0 ∙ sym (preferences own.route f.route own.keyed) in
        let held : label L f.edge.importer ≡ Some own.route = subst (λ w. label L w ≡ Some own.route) (sym f.importer) own.labelled in
        let over : IsCandidateOver P L f.edge t.route = record {
          from = t.from;
          labelled = t.labelled;
          stepped = t.stepped;
          passes = passes_check P good none L (stable_supported P good L st) f.edge t.from t.route own.route f.edge_in t.labelled t.stepped held (omega arith);
        } in
        let equal = untied u own.route t.route own.labelled (of_edge f.edge f.edge_in f.importer over) preference size in
        record {
          route = own.route;
          labelled = own.labelled;
          edge = f.edge;
          edge_in = f.edge_in;
          importer = f.importer;
          exporter = f.exporter;
          candidate = t.route;
          over = over;
          same = keyed_plain P none t.route ∙ equal ∙ sym (keyed_plain P none own.route);
        }

    forwarded : (u v : ℕ) → ForwardsTo P L u v → ForwardsWeaklyTo P M u v
    forwarded u v f =
        let own = kept.there u f.route f.labelled in
        let t = carried P P refl f.edge (λ r. refl) L M st.fitting weak.fitting kept f.over.from f.candidate f.over.labelled f.over.stepped in
        let equal : plain t.route ≡ plain own.route =
        t.keyed ∙ sym (keyed_plain P none f.candidate) ∙ f.same ∙ keyed_plain P none f.route ∙ sym own.keyed in
        let size = sizes t.route own.route equal in
        let held : label M f.edge.importer ≡ Some own.route = subst (λ w. label M w ≡ Some own.route) (sym f.importer) own.labelled in
        record {
          route = own.route;
          labelled = own.labelled;
          edge = f.edge;
          edge_in = f.edge_in;
          importer = f.importer;
          exporter = f.exporter;
          candidate = t.route;
          over = record {
            from = t.from;
            labelled = t.labelled;
            stepped = t.stepped;
            passes = passes_check P good none M (weak_supported P good none M weak) f.edge t.from t.route own.route f.edge_in t.labelled t.stepped held
                (omega arith);
          };
          same = weakly_equal (key_of P t.route) (key_of P own.route) (preferences t.route own.route equal) size;
        }

    member : HasMemberAsWeak P (L ∷ []) M
    member = record { member = L; inside = (zero, omega arith, refl); keys = weak_keys; forwards = forwards; forwarded = forwarded }

  pub holds : HoldsHoweverTiesBreak P (L ∷ [])
  holds = record { each = λ M weak. member M weak }
