-- The end of a case, and labels of equal keys.
use Rattle.std.proofs.Common.{◌≡◌, ℕ, suc, ◌<◌, List, length, Option, Some, None, refl, sym, ap, ◌∙◌, subst, inl, inr, arith}
use Rattle.std.specs.Prelude.{slice_index_or}
use Rattle.std.proofs.lemmas.Bool.{cases_lt}
use Rattle.std.proofs.lemmas.List.{get_or_past}
use Rattle.srp_core.specs.declared.route.Route.{Route}
use Rattle.srp_core.specs.Routes.{size_of, Key}
use Rattle.srp_core.specs.Problem.{Problem, count, key_of, IsProblem}
use Rattle.srp_core.specs.Stability.{label, of_edge, IsStable, ForwardsTo, HaveSameKeys, both_none, both_some}
use Rattle.srp_core.specs.Weak.{IsWeaklyStable, ForwardsWeaklyTo}
use Rattle.srp_core.specs.Solutions.{HaveEqualKeys}
use Rattle.srp_core.proofs.Offers.{cases_label}
use Rattle.solution_search.specs.Cases.{Case, IsOffer, HasNoTie, IsCase, HoldsKey, Admits, IsAtEnd}
use Rattle.solution_search.proofs.WeakOrder.{equal_weak, weak_equal}
use Rattle.solution_search.proofs.Carried.{AreKept, IsCarriedOver, over_edge, over_loop, weak_supported, carried_over, label_inside, same_preference, same_size}
use Rattle.solution_search.proofs.Offered.{offers_bind, not_smaller, case_supported}

pub keys_back : (P : Problem) (a b : List (Option Route)) → HaveEqualKeys P a b → HaveEqualKeys P b a
keys_back P a b same u h = by (same u h)
  where
    by : HaveSameKeys P P (label a u) (label b u) → HaveSameKeys P P (label b u) (label a u)
    by (both_none e f) = both_none f e
    by (both_some r s e f k) = both_some s r f e (sym k)

-- a label of equal keys
key_there : (P : Problem) (a b : List (Option Route)) (u : ℕ) (r : Route) → HaveSameKeys P P (label a u) (label b u) → label a u ≡ Some r →
    HoldsKey P b u (key_of P r)
key_there P a b u r (both_none e f) lab = absurd (cc)
key_there P a b u r (both_some x y e f k) lab =
    let same : x ≡ r = cc in
    record { route = y; labelled = f; keyed = sym k ∙ ap (key_of P) same }

waits_inside : (waits : List (Option ℕ)) (u p : ℕ) → slice_index_or waits u None ≡ Some p → u < length waits
waits_inside waits u p e = elim (cases_lt u (length waits)) [
  | inl h ↦ h
  | inr h ↦ let past : slice_index_or waits u None ≡ None = get_or_past waits u None h in absurd (cc)
]

module _ (P : Problem) (good : IsProblem P) (case : Case) (rules : IsCase P case) where
  -- what admits labels admits those of equal keys
  pub admits_same : (a b : List (Option Route)) → HaveEqualKeys P a b → Admits P case a → Admits P case b
  admits_same a b same admits = record {
    settled = λ u r e.
        (let h = admits.settled u r e in
        let g = key_there P a b u h.route (same u (label_inside P good case.labels rules.fitting u r e)) h.labelled in
        record { route = g.route; labelled = g.labelled; keyed = g.keyed ∙ h.keyed });
    waited = λ u p none w.
        (let h = admits.waited u p none w in
        let inside : u < count P = subst (λ n. u < n) rules.waits (waits_inside case.waits u p w) in
        let g = key_there P a b u h.route (same u inside) h.labelled in
        let up = h.above in
        let q = same_preference P good g.route h.route g.keyed in
        record { route = g.route; labelled = g.labelled; above = omega (arith, up, q) });
  }

  -- at an end a router that is not settled has no label in admitted labels
  pub none_at_end : IsAtEnd P case → (L : List (Option Route)) → IsWeaklyStable P L → Admits P case L → (u : ℕ) → label case.labels u ≡ None → label L u ≡ None
  none_at_end end L w admits u none = elim (cases_label (label L u)) [
    | inl empty ↦ empty
    | inr full ↦
        let n = not_smaller P good case rules L w admits (suc (size_of full.0)) (λ v d o. absurd (end.closed v d o)) (suc (size_of full.0)) u full.0
        (omega arith) none full.1 in
        absurd (omega (arith, n))
  ]

  -- an end at which a router has an offer and no label admits nothing
  pub dead_end : IsAtEnd P case → (u : ℕ) (c : Route) → IsOffer P case u c → (L : List (Option Route)) → IsWeaklyStable P L → ¬ Admits P case L
  dead_end end u c offer L w admits =
      let h = offers_bind P good case rules L w admits u c offer.candidate in
      let none = none_at_end end L w admits u offer.unsettled in
      let there = h.labelled in cc

  module _ (left : (u : ℕ) (c : Route) → ¬ IsOffer P case u c) where
    pub at_end : IsAtEnd P case
    at_end = record { closed = λ u r o. left u r o.best.offer }

    pub end_stable : IsStable P case.labels
    end_stable = record {
      fitting = rules.fitting;
      none = λ u c h e cand. left u c (record { unsettled = e; candidate = cand });
      held = λ u r h e. rules.held u r e;
      best = λ u r c h e cand. rules.unbeaten.best u r c e cand;
    }

    pub end_admits_itself : Admits P case case.labels
    end_admits_itself = record {
      settled = λ u r e. record { route = r; labelled = e; keyed = refl };
      waited = λ u p none w. (let c = rules.offered u p none w in absurd (left u c.0 (record { unsettled = none; candidate = c.1 })));
    }

    module _ (L : List (Option Route)) (w : IsWeaklyStable P L) (admits : Admits P case L) where
      -- admitted labels have the keys of the case's
      pub keys_at_end : HaveEqualKeys P L case.labels
      keys_at_end u h = elim (cases_label (label case.labels u)) [
        | inl empty ↦ both_none (none_at_end at_end L w admits u empty) empty
        | inr full ↦ let g = admits.settled u full.0 full.1 in both_some g.route full.0 g.labelled full.1 g.keyed
      ]

      kept_back : AreKept P L case.labels
      kept_back = record {
        keys = λ u r e. key_there P L case.labels u r (keys_at_end u (label_inside P good L w.fitting u r e)) e;
      }

      pub forwards_at_end : HasNoTie P case.labels → (u v : ℕ) → ForwardsWeaklyTo P L u v → ForwardsTo P case.labels u v
      forwards_at_end tie u v f =
          let over = f.over in
          by (carried_over P good L case.labels w.fitting (case_supported P good case rules) f.edge f.candidate f.edge_in over
          (kept_back.keys f.edge.exporter over.from over.labelled))
        where
          own : HoldsKey P case.labels u (key_of P f.route)
          own = kept_back.keys u f.route f.labelled

          by : IsCarriedOver P case.labels f.edge f.candidate → ForwardsTo P case.labels u v
          by (over_edge d o k) =
              let one = weak_equal (key_of P f.candidate) (key_of P f.route) f.same in
              let p = ap (λ (q : Key). q.preference) k in
              let s = ap (λ (q : Key). q.size) k in
              let p' = ap (λ (q : Key). q.preference) own.keyed in
              let s' = ap (λ (q : Key). q.size) own.keyed in
              record {
                route = own.route;
                labelled = own.labelled;
                edge = f.edge;
                edge_in = f.edge_in;
                importer = f.importer;
                exporter = f.exporter;
                candidate = d;
                over = o;
                same = tie.same u own.route d own.labelled (of_edge f.edge f.edge_in f.importer o)
                    (equal_weak (key_of P d) (key_of P own.route) (sym p ∙ one.0 ∙ sym p') (sym s ∙ one.1 ∙ sym s'));
              }
          by (over_loop h) =
              let there : label case.labels u ≡ Some h.route = subst (λ x. label case.labels x ≡ Some h.route) f.importer h.labelled in
              let same : h.route ≡ own.route = (let l = own.labelled in cc) in
              let one = weak_equal (key_of P f.candidate) (key_of P f.route) f.same in
              let size : size_of h.route ≡ size_of own.route = ap size_of same in
              let size' : size_of own.route ≡ size_of f.route = same_size P good own.route f.route own.keyed in
              let size'' : size_of f.candidate ≡ size_of f.route = one.1 in
              let less = h.shorter in
              absurd (omega (arith, size, size', size'', less))

      pub forwarded_at_end : (u v : ℕ) → ForwardsTo P case.labels u v → ForwardsWeaklyTo P L u v
      forwarded_at_end u v f =
          let over = f.over in
          by (carried_over P good case.labels L rules.fitting (weak_supported P good L w) f.edge f.candidate f.edge_in over
          (admits.settled f.edge.exporter over.from over.labelled))
        where
          own : HoldsKey P L u (key_of P f.route)
          own = admits.settled u f.route f.labelled

          by : IsCarriedOver P L f.edge f.candidate → ForwardsWeaklyTo P L u v
          by (over_edge d o k) =
              let whole : key_of P d ≡ key_of P own.route = sym k ∙ f.same ∙ sym own.keyed in
              record {
                route = own.route;
                labelled = own.labelled;
                edge = f.edge;
                edge_in = f.edge_in;
                importer = f.importer;
                exporter = f.exporter;
                candidate = d;
                over = o;
                same = equal_weak (key_of P d) (key_of P own.route) (ap (λ (q : Key). q.preference) whole) (ap (λ (q : Key). q.size) whole);
              }
          by (over_loop h) =
              let there : label L u ≡ Some h.route = subst (λ x. label L x ≡ Some h.route) f.importer h.labelled in
              let same : h.route ≡ own.route = (let l = own.labelled in cc) in
              let size : size_of h.route ≡ size_of own.route = ap size_of same in
              let size' : size_of own.route ≡ size_of f.route = same_size P good own.route f.route own.keyed in
              let size'' : size_of f.candidate ≡ size_of f.route = same_size P good f.candidate f.route f.same in
              let less = h.shorter in
              absurd (omega (arith, size, size', size'', less))
