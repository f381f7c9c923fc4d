-- The cases after a router has taken its best offer, or waits for a better one.
use Rattle.std.proofs.Common.{◌≡◌, ◌≢◌, ◌⊎◌, ℕ, ◌<◌, ◌≤◌, Bool, false, List, length, set, Option, Some, None, sym, ap, ◌∙◌, subst, inl, inr, arith, length-set, get_or-set_same, get_or-set_other}
use Rattle.std.specs.Prelude.{slice_index_or}
use Rattle.std.proofs.lemmas.Bool.{cases_eq}
use Rattle.std.specs.declared.cmp.Ordering.TheVariants.{Less}
use Rattle.srp_core.specs.declared.route.Route.{Route}
use Rattle.srp_core.specs.Routes.{preference_of, size_of, IsRouteOf, compare_keys}
use Rattle.srp_core.specs.Problem.{Problem, count, is_lone, key_of, IsProblem}
use Rattle.srp_core.specs.Stability.{label, AreLabels, IsCandidate, IsStable}
use Rattle.srp_core.specs.Weak.{IsWeaklyStable}
use Rattle.srp_core.proofs.KeyOrder.{neither_better}
use Rattle.srp_core.proofs.Offers.{offer_route, offer_edge, candidate_offer, one_preference}
use Rattle.srp_core.proofs.Filling.{Extends, candidate_kept}
use Rattle.solution_search.specs.Cases.{Case, waits_above, IsOffer, IsAbove, IsOpen, IsSure, taken, waiting, AreUnbeaten, IsBeaten, HasOneKey, HasNoTie, IsCase, Admits}
use Rattle.solution_search.proofs.WeakOrder.{IsNoWorse, equal_weak, no_worse, no_worse_both, not_beaten}
use Rattle.solution_search.proofs.Carried.{candidate_in, stable_weak, same_preference}
use Rattle.solution_search.proofs.Offered.{HoldsNoWorse, Source, from_settled, from_unsettled, kept_bind, kept_bind_stable, offers_bind, held_source, higher_from_unsettled, admits_kept}

-- where a place is set, it has the new item; every other place has its old one
pub at_set : (E : List (Option Route)) (u v : ℕ) (d r : Route) → u < length E → label (set E u (Some d)) v ≡ Some r → ((v ≡ u) × (d ≡ r)) ⊎ (label E v ≡ Some r)
at_set E u v d r h e = elim (cases_eq v u) [
  | inl same ↦
      let put : label (set E u (Some d)) v ≡ Some d = subst (λ w. label (set E u (Some d)) w ≡ Some d) (sym same) (get_or-set_same E u (Some d) None h) in
      let dr : d ≡ r = cc in inl (same, dr)
  | inr differ ↦ inr (sym (get_or-set_other E u v (Some d) None differ) ∙ e)
]

pub not_set : (E : List (Option Route)) (u v : ℕ) (d : Route) → u < length E → label (set E u (Some d)) v ≡ None → (v ≢ u) × (label E v ≡ None)
not_set E u v d h e = elim (cases_eq v u) [
  | inl same ↦
      let put : label (set E u (Some d)) v ≡ Some d = subst (λ w. label (set E u (Some d)) w ≡ Some d) (sym same) (get_or-set_same E u (Some d) None h) in
      absurd (cc)
  | inr differ ↦ (differ, sym (get_or-set_other E u v (Some d) None differ) ∙ e)
]

pub set_extends : (E : List (Option Route)) (u : ℕ) (d : Route) → label E u ≡ None → Extends E (set E u (Some d))
set_extends E u d empty = record {
  kept = λ v r e. elim (cases_eq v u) [
    | inl same ↦ (let no : label E v ≡ None = subst (λ w. label E w ≡ None) (sym same) empty in absurd (cc))
    | inr differ ↦ get_or-set_other E u v (Some d) None differ ∙ e
  ];
}

pub wait_at_set : (W : List (Option ℕ)) (u v p q : ℕ) → u < length W → slice_index_or (set W u (Some p)) v None ≡ Some q →
    ((v ≡ u) × (p ≡ q)) ⊎ ((v ≢ u) × (slice_index_or W v None ≡ Some q))
wait_at_set W u v p q h e = elim (cases_eq v u) [
  | inl same ↦
      let put : slice_index_or (set W u (Some p)) v None ≡ Some p =
      subst (λ w. slice_index_or (set W u (Some p)) w None ≡ Some p) (sym same) (get_or-set_same W u (Some p) None h) in
      let pq : p ≡ q = cc in inl (same, pq)
  | inr differ ↦ inr (differ, sym (get_or-set_other W u v (Some p) None differ) ∙ e)
]

-- Labels that a step has to lead to: stable ones, and weakly stable ones where the router has no tie.
pub data IsMet (P : Problem) (case : Case) (u : ℕ) (d : Route) (L : List (Option Route)) : Type 0 where
  stably : IsStable P L → IsMet P case u d L
  weakly : IsWeaklyStable P L → HasOneKey P case u d → IsMet P case u d L

pub above_over : (o : Option ℕ) (p q : ℕ) → IsAbove o q → o ≡ Some p → p < q
above_over None p q h e = absurd (cc)
above_over (Some w) p q h e = let same : w ≡ p = cc in subst (λ x. x < q) same h

module _ (P : Problem) (good : IsProblem P) where
  pub met_weak : (case : Case) (u : ℕ) (d : Route) (L : List (Option Route)) → IsMet P case u d L → IsWeaklyStable P L
  met_weak case u d L (stably st) = stable_weak P good L st
  met_weak case u d L (weakly w one) = w

  -- where no candidates of a router have two preferences, nothing better can come
  pub not_lone_sure : (case : Case) (u : ℕ) (d : Route) → AreLabels P case.labels → IsOffer P case u d → is_lone P u ≡ false → IsSure P case u (preference_of d)
  not_lone_sure case u d fits offer l = record {
    not_above = λ e from route i imp empty fit s.
        (let inside = candidate_in P good case.labels u d offer.candidate in
        let same = one_preference P good u route d inside l (offer_edge e i imp from fit s) (candidate_offer P good case.labels u d fits offer.candidate)
        in
        omega (arith, same));
  }

  module _ (case : Case) (rules : IsCase P case) (u : ℕ) (d : Route) (opened : IsOpen P case u d) where
    pub inside : u < count P
    inside = candidate_in P good case.labels u d opened.best.offer.candidate

    pub inside_labels : u < length case.labels
    inside_labels = let i = inside in let t = rules.fitting.total in omega (arith, i, t)

    pub taken_extends : Extends case.labels (taken case u d).labels
    taken_extends = set_extends case.labels u d opened.best.offer.unsettled

    pub put : label (taken case u d).labels u ≡ Some d
    put = get_or-set_same case.labels u (Some d) None inside_labels

    pub taken_fits : AreLabels P (taken case u d).labels
    taken_fits = record {
      total = length-set case.labels u (Some d) ∙ rules.fitting.total;
      routes = λ v r e. elim (at_set case.labels u v d r inside_labels e) [
        | inl new ↦ subst (IsRouteOf P.protocol) new.1
            (offer_route P good u d (candidate_offer P good case.labels u d rules.fitting opened.best.offer.candidate))
        | inr old ↦ rules.fitting.routes v r old
      ];
    }

    -- if no label is beaten, it is a case
    pub taken_case : AreUnbeaten P (taken case u d).labels → IsCase P (taken case u d)
    taken_case unbeaten = record {
      fitting = taken_fits;
      waits = rules.waits;
      held = λ v r e. elim (at_set case.labels u v d r inside_labels e) [
        | inl new ↦ subst (λ w. IsCandidate P (taken case u d).labels w r) (sym new.0)
            (subst (IsCandidate P (taken case u d).labels u) new.1
            (candidate_kept P case.labels (taken case u d).labels u d taken_extends opened.best.offer.candidate))
        | inr old ↦ candidate_kept P case.labels (taken case u d).labels v r taken_extends (rules.held v r old)
      ];
      unbeaten = unbeaten;
      offered = λ v p none w.
          (let c = rules.offered v p (not_set case.labels u v d inside_labels none).1 w in
          (c.0, candidate_kept P case.labels (taken case u d).labels v c.0 taken_extends c.1));
    }

    pub inside_waits : u < length case.waits
    inside_waits = let i = inside in let t = rules.waits in omega (arith, i, t)

    pub waiting_case : (p : ℕ) → IsCase P (waiting case u p)
    waiting_case p = record {
      fitting = rules.fitting;
      waits = length-set case.waits u (Some p) ∙ rules.waits;
      held = rules.held;
      unbeaten = rules.unbeaten;
      offered = λ v q none w. elim (wait_at_set case.waits u v p q inside_waits w) [
        | inl new ↦ (d, subst (λ x. IsCandidate P case.labels x d) (sym new.0) opened.best.offer.candidate)
        | inr old ↦ rules.offered v q none old.1
      ];
    }

    -- where there is no tie after the take, the router had none
    pub one_key : HasNoTie P (taken case u d).labels → HasOneKey P case u d
    one_key tie = record {
      same = λ c offer e. tie.same u d c put (candidate_kept P case.labels (taken case u d).labels u c taken_extends offer.candidate) e;
    }

    -- what is admitted after the step was admitted before
    pub taken_within : (L : List (Option Route)) → Admits P (taken case u d) L → Admits P case L
    taken_within L admits = record {
      settled = λ v r e. admits.settled v r (taken_extends.kept v r e);
      waited = λ v p none w. elim (cases_eq v u) [
        | inl same ↦
            let h = admits.settled u d put in
            let up : p < preference_of d = above_over (waits_above case u) p (preference_of d) opened.above (subst (λ x. waits_above case x ≡ Some p) same w) in
            let q = same_preference P good h.route d h.keyed in
            record { route = h.route; labelled = subst (λ x. label L x ≡ Some h.route) (sym same) h.labelled; above = omega (arith, up, q) }
        | inr differ ↦ admits.waited v p (get_or-set_other case.labels u v (Some d) None differ ∙ none) w
      ];
    }

    pub waiting_within : (L : List (Option Route)) → Admits P (waiting case u (preference_of d)) L → Admits P case L
    waiting_within L admits = record {
      settled = admits.settled;
      waited = λ v p none w. elim (cases_eq v u) [
        | inl same ↦
            let new : waits_above (waiting case u (preference_of d)) v ≡ Some (preference_of d) =
            subst (λ x. waits_above (waiting case u (preference_of d)) x ≡ Some (preference_of d)) (sym same)
            (get_or-set_same case.waits u (Some (preference_of d)) None inside_waits) in
            let h = admits.waited v (preference_of d) none new in
            let up : p < preference_of d = above_over (waits_above case u) p (preference_of d) opened.above (subst (λ x. waits_above case x ≡ Some p) same w) in
            let more = h.above in
            record { route = h.route; labelled = h.labelled; above = omega (arith, up, more) }
        | inr differ ↦ admits.waited v p none (get_or-set_other case.waits u v (Some (preference_of d)) None differ ∙ w)
      ];
    }

    -- the two cases of a fork admit no common labels
    pub fork_apart : (L : List (Option Route)) → Admits P (taken case u d) L → ¬ Admits P (waiting case u (preference_of d)) L
    fork_apart L first second =
        let h = first.settled u d put in
        let w = second.waited u (preference_of d) opened.best.offer.unsettled (get_or-set_same case.waits u (Some (preference_of d)) None inside_waits) in
        let same : h.route ≡ w.route = (let l = h.labelled in let m = w.labelled in cc) in
        let p = same_preference P good h.route d h.keyed in
        let q = ap preference_of same in
        let up = w.above in
        omega (arith, p, q, up)

    -- where a label is beaten, no stable labels are admitted
    pub beaten_stable : (tied : Bool) → IsBeaten P tied (taken case u d).labels → (L : List (Option Route)) → IsStable P L → ¬ Admits P (taken case u d) L
    beaten_stable tied beaten L st admits =
        let h = admits.settled beaten.router beaten.route beaten.labelled in
        let g = kept_bind_stable P good (taken case u d).labels L taken_fits st (admits_kept P good (taken case u d) L admits) beaten.router beaten.other
        beaten.candidate in
        let same : g.route ≡ h.route = (let l = h.labelled in let m = g.labelled in cc) in
        let k : key_of P g.route ≡ key_of P beaten.route = ap (key_of P) same ∙ h.keyed in
        g.as_good (subst (λ q. compare_keys (key_of P beaten.other) q ≡ Less) (sym k) beaten.better)

    -- and no weakly stable ones, if no tie is noted
    pub beaten_weak : (tied : Bool) → IsBeaten P tied (taken case u d).labels → tied ≡ false → (L : List (Option Route)) → IsWeaklyStable P L →
        ¬ Admits P (taken case u d) L
    beaten_weak tied beaten untied L w admits =
        let h = admits.settled beaten.router beaten.route beaten.labelled in
        let g = kept_bind P good (taken case u d).labels L taken_fits w (admits_kept P good (taken case u d) L admits) beaten.router beaten.other
        beaten.candidate in
        let same : g.route ≡ h.route = (let l = h.labelled in let m = g.labelled in cc) in
        let k : key_of P g.route ≡ key_of P beaten.route = ap (key_of P) same ∙ h.keyed in
        not_beaten (key_of P beaten.route) (key_of P beaten.other) (beaten.weakly untied) (subst (λ q. IsNoWorse q (key_of P beaten.other)) k g.no_worse)

    module _ (L : List (Option Route)) (met : IsMet P case u d L) (admits : Admits P case L) where
      -- an offer with the key of the label has the key of the best offer
      same_key : (s c : Route) → label L u ≡ Some s → IsOffer P case u c → key_of P s ≡ key_of P c → IsMet P case u d L → key_of P s ≡ key_of P d
      same_key s c lab offer k (stably st) =
          let g = kept_bind_stable P good case.labels L rules.fitting st (admits_kept P good case L admits) u d opened.best.offer.candidate in
          let same : g.route ≡ s = (let m = g.labelled in cc) in
          let h : compare_keys (key_of P d) (key_of P s) ≢ Less = subst (λ r. compare_keys (key_of P d) (key_of P r) ≢ Less) same g.as_good in
          let b : compare_keys (key_of P s) (key_of P d) ≢ Less = subst (λ q. compare_keys q (key_of P d) ≢ Less) (sym k) (opened.best.best c offer) in
          neither_better (key_of P s) (key_of P d) b h
      same_key s c lab offer k (weakly w one) =
          let g = kept_bind P good case.labels L rules.fitting w (admits_kept P good case L admits) u d opened.best.offer.candidate in
          let same : g.route ≡ s = (let m = g.labelled in cc) in
          let h : IsNoWorse (key_of P s) (key_of P d) = subst (λ r. IsNoWorse (key_of P r) (key_of P d)) same g.no_worse in
          let b : IsNoWorse (key_of P d) (key_of P c) = no_worse (key_of P d) (key_of P c) (opened.best.best c offer) in
          let both = no_worse_both (key_of P c) (key_of P d) (subst (λ q. IsNoWorse q (key_of P d)) k h) b in
          k ∙ one.same c offer (equal_weak (key_of P c) (key_of P d) both.0 both.1)

      -- where the label has the key of an offer, the case after the take admits the labels
      pub taken_admits : (s c : Route) → label L u ≡ Some s → IsOffer P case u c → key_of P s ≡ key_of P c → Admits P (taken case u d) L
      taken_admits s c lab offer k = record {
        settled = λ v r e. elim (at_set case.labels u v d r inside_labels e) [
          | inr old ↦ admits.settled v r old
          | inl new ↦ record {
            route = s;
            labelled = subst (λ x. label L x ≡ Some s) (sym new.0) lab;
            keyed = same_key s c lab offer k met ∙ ap (key_of P) new.1;
          }
        ];
        waited = λ v p none w. admits.waited v p (not_set case.labels u v d inside_labels none).1 w;
      }

      -- where the label has a higher preference, the case that waits admits the labels
      pub waiting_admits : (s : Route) → label L u ≡ Some s → preference_of d < preference_of s → Admits P (waiting case u (preference_of d)) L
      waiting_admits s lab up = record {
        settled = admits.settled;
        waited = λ v p none w. elim (wait_at_set case.waits u v (preference_of d) p inside_waits w) [
          | inr old ↦ admits.waited v p none old.1
          | inl new ↦ record {
            route = s;
            labelled = subst (λ x. label L x ≡ Some s) (sym new.0) lab;
            above = let q = new.1 in omega (arith, up, q);
          }
        ];
      }

      -- the label of the router
      pub own_label : HoldsNoWorse P L u d
      own_label = offers_bind P good case rules L (met_weak case u d L met) admits u d opened.best.offer.candidate

    -- a fork: one of the two cases admits the labels
    pub fork_admits : ((other : ℕ) (best : Route) → IsOpen P case other best → size_of d ≤ size_of best) → (L : List (Option Route)) → IsMet P case u d L →
        Admits P case L → Admits P (taken case u d) L ⊎ Admits P (waiting case u (preference_of d)) L
    fork_admits smallest L met admits =
        let own = own_label L met admits in
        by own.route own.labelled
        (held_source P good case rules L (met_weak case u d L met) admits u own.route opened.best.offer.unsettled own.labelled)
      where
        by : (s : Route) → label L u ≡ Some s → Source P case L u s → Admits P (taken case u d) L ⊎ Admits P (waiting case u (preference_of d)) L
        by s lab (from_settled c offer k) = inl (taken_admits L met admits s c lab offer k)
        by s lab (from_unsettled e i imp empty over) =
            inr (waiting_admits L met admits s lab
            (higher_from_unsettled P good case rules L (met_weak case u d L met) admits u d s
            (record { is_open = opened; smallest = smallest }) lab e i empty over))

    -- a sure take: the case after it admits the labels
    pub sure_admits : ((other : ℕ) (best : Route) → IsOpen P case other best → size_of d ≤ size_of best) → IsSure P case u (preference_of d) →
        (L : List (Option Route)) → IsMet P case u d L → Admits P case L → Admits P (taken case u d) L
    sure_admits smallest sure L met admits =
        let own = own_label L met admits in
        by own.route own.labelled
        (held_source P good case rules L (met_weak case u d L met) admits u own.route opened.best.offer.unsettled own.labelled)
      where
        by : (s : Route) → label L u ≡ Some s → Source P case L u s → Admits P (taken case u d) L
        by s lab (from_settled c offer k) = taken_admits L met admits s c lab offer k
        by s lab (from_unsettled e i imp empty over) =
            let up = higher_from_unsettled P good case rules L (met_weak case u d L met) admits u d s
            (record { is_open = opened; smallest = smallest }) lab e i empty over in
            let w = met_weak case u d L met in
            let down = sure.not_above e over.from s i imp empty (w.fitting.routes e.exporter over.from over.labelled) over.stepped in
            absurd (omega (arith, up, down))
