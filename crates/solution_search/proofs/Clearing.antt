-- What a router may still get, seen from labels that the case admits, and from the cases that follow.
use Rattle.std.proofs.Common.{◌≡◌, ◌≢◌, ◌⊎◌, ℕ, zero, suc, ◌<◌, ◌≤◌, false, List, length, Option, Some, None, refl, sym, ◌∙◌, subst, inl, inr, arith}
use Rattle.std.specs.Prelude.{Contains}
use Rattle.std.specs.declared.cmp.Ordering.TheVariants.{Less}
use Rattle.base_kit.specs.declared.act_graph.Edge.{Edge}
use Rattle.base_kit.specs.declared.protocol.Protocol.TheVariants.{Bgp as OverBgp}
use Rattle.srp_core.specs.declared.route.Route.{Route}
use Rattle.srp_core.specs.Routes.{preference_of, size_of, path_of, is_on, IsRouteOf}
use Rattle.srp_core.specs.Problem.{Problem, number, step_over, key_of, IsProblem}
use Rattle.srp_core.specs.Stability.{label, IsCandidateOver, IsCandidate, of_init, of_edge}
use Rattle.srp_core.specs.Weak.{compare_weak, IsWeaklyStable}
use Rattle.srp_core.proofs.Filling.{candidate_kept}
use Rattle.srp_core.proofs.Offers.{grows, offer_edge, offer_route, candidate_offer}
use Rattle.solution_search.specs.Ahead.{TakesPart, Passes, MayHold, holds_offer, holds_import, NothingComes}
use Rattle.solution_search.specs.Cases.{Case, waits_above, IsOffer, IsAbove, IsOpen, taken, IsCase, Admits}
use Rattle.solution_search.proofs.Avoiding.{Avoids, avoids_before}
use Rattle.solution_search.proofs.Carried.{same_preference, same_step}
use Rattle.solution_search.proofs.Offered.{Source, from_settled, from_unsettled, above_by, offers_bind, held_source}
use Rattle.solution_search.proofs.Taking.{IsMet, at_set, not_set, met_weak, set_extends, own_label, taken_admits}
use Rattle.solution_search.proofs.WeakOrder.{IsNoWorse, weak_better, not_beaten}

-- a route of the label's key, that the router may hold
record HeldLike (P : Problem) (case : Case) (without : Option ℕ) (u : ℕ) (s : Route) : Type 0 where
  route : Route
  may : MayHold P case without u route
  keyed : key_of P route ≡ key_of P s
  fits : IsRouteOf P.protocol route

-- the router that is left out, if one is, is the one that is looked at
abbrev pub LeavesOut : Problem → Option ℕ → ℕ → Type 0
LeavesOut P without u = (without ≡ None) ⊎ ((without ≡ Some u) × (P.protocol ≡ OverBgp))

leaving_avoids : (P : Problem) (without : Option ℕ) (u : ℕ) (s : Route) → LeavesOut P without u → is_on (number P u) (path_of s) ≡ false → Avoids P without s
leaving_avoids P without u s (inl none) off = record {
  over_bgp = λ x e. (let no : None ≡ Some x = sym none ∙ e in absurd (cc));
  off = λ x e. (let no : None ≡ Some x = sym none ∙ e in absurd (cc));
}
leaving_avoids P without u s (inr some) off = record {
  over_bgp = λ x e. some.1;
  off = λ x e.
      (let both : Some u ≡ Some x = sym some.0 ∙ e in
      let same : u ≡ x = cc in
      subst (λ y. is_on (number P y) (path_of s) ≡ false) same off);
}

module _ (P : Problem) (good : IsProblem P) where
  -- routes of one key pass alike
  passes_alike : (case : Case) (u : ℕ) (r s : Route) → key_of P r ≡ key_of P s → Passes P case u r → Passes P case u s
  passes_alike case u r s k p = record {
    above = subst (IsAbove (waits_above case u)) (same_preference P good r s k) p.above;
    unbeaten = λ c o. subst (λ q. compare_weak (key_of P c) q ≢ Less) k (p.unbeaten c o);
  }

  -- ---- labels that the case admits

  module _ (case : Case) (rules : IsCase P case) (L : List (Option Route)) (w : IsWeaklyStable P L) (admits : Admits P case L) where
    -- the label of a router that is not settled passes
    label_passes : (u : ℕ) (s : Route) → label case.labels u ≡ None → label L u ≡ Some s → Passes P case u s
    label_passes u s none lab = record {
      above = above_by (waits_above case u) (preference_of s) (λ p e.
          (let a = admits.waited u p none e in
          let same : a.route ≡ s = (let l = a.labelled in cc) in
          subst (λ (r : Route). p < preference_of r) same a.above));
      unbeaten = λ c o less.
          (let h = offers_bind P good case rules L w admits u c o.candidate in
          let same : h.route ≡ s = (let l = h.labelled in cc) in
          not_beaten (key_of P s) (key_of P c) less (subst (λ (r : Route). IsNoWorse (key_of P r) (key_of P c)) same h.no_worse));
    }

    -- what a router holds it may hold
    held_like : (without : Option ℕ) (n u : ℕ) (s : Route) → size_of s < n → without ≢ Some u → Avoids P without s → label case.labels u ≡ None →
        label L u ≡ Some s → HeldLike P case without u s
    held_like without zero u s less kept avoids none lab = absurd (omega arith)
    held_like without (suc n) u s less kept avoids none lab =
        by (held_source P good case rules L w admits u s none lab) (λ v r l k a e f. held_like without n v r l k a e f)
      where
        by : Source P case L u s → ((v : ℕ) (r : Route) → size_of r < n → without ≢ Some v → Avoids P without r → label case.labels v ≡ None →
            label L v ≡ Some r → HeldLike P case without v r) → HeldLike P case without u s
        by (from_settled c offer k) before = record {
          route = c;
          may = holds_offer u c (record { unsettled = none; kept = kept }) offer (passes_alike case u s c k (label_passes u s none lab));
          keyed = sym k;
          fits = offer_route P good u c (candidate_offer P good case.labels u c rules.fitting offer.candidate);
        }
        by (from_unsettled e i imp empty over) before =
            let fits = w.fitting.routes e.exporter over.from over.labelled in
            let g = grows P good e over.from s i over.stepped in
            let a = avoids_before P without e over.from s fits over.stepped avoids in
            let h = before e.exporter over.from (omega (arith, g, less)) a.1 a.0 empty over.labelled in
            let t = same_step P good e over.from h.route s i fits h.fits (sym h.keyed) over.stepped in
            let passes : Passes P case e.importer t.0 =
            subst (λ v. Passes P case v t.0) (sym imp) (passes_alike case u s t.0 t.2 (label_passes u s none lab)) in
            let part : TakesPart case without e.importer = subst (TakesPart case without) (sym imp) (record { unsettled = none; kept = kept }) in
            record {
              route = t.0;
              may = subst (λ v. MayHold P case without v t.0) imp (holds_import e h.route t.0 i part h.may t.1 passes);
              keyed = sym t.2;
              fits = offer_route P good u t.0 (offer_edge e i imp h.route h.fits t.1);
            }

    -- where nothing comes, the label is not from a router that is not settled
    nothing_from_unsettled : (without : Option ℕ) (u : ℕ) (s : Route) → NothingComes P case without u → LeavesOut P without u → label case.labels u ≡ None →
        label L u ≡ Some s → (e : Edge) → Contains P.edges e → e.importer ≡ u → label case.labels e.exporter ≡ None → IsCandidateOver P L e s → ⊥
    nothing_from_unsettled without u s nothing leaves none lab e i imp empty over =
        let fits = w.fitting.routes e.exporter over.from over.labelled in
        let off : is_on (number P u) (path_of s) ≡ false = subst (λ v. is_on (number P v) (path_of s) ≡ false) imp over.passes in
        let a = avoids_before P without e over.from s fits over.stepped (leaving_avoids P without u s leaves off) in
        let h = held_like without (suc (size_of over.from)) e.exporter over.from (omega arith) a.1 a.0 empty over.labelled in
        let t = same_step P good e over.from h.route s i fits h.fits (sym h.keyed) over.stepped in
        nothing.none e h.route t.0 i imp h.may t.1 (passes_alike case u s t.0 t.2 (label_passes u s none lab))

  -- where nothing comes and the router is open, the case after the take admits the labels
  pub clear_admits : (case : Case) (rules : IsCase P case) (u : ℕ) (d : Route) (opened : IsOpen P case u d) (without : Option ℕ) →
      NothingComes P case without u →
      LeavesOut P without u → (L : List (Option Route)) → IsMet P case u d L → Admits P case L → Admits P (taken case u d) L
  clear_admits case rules u d opened without nothing leaves L met admits =
      let own = own_label P good case rules u d opened L met admits in
      by own.route own.labelled (held_source P good case rules L (met_weak P good case u d L met) admits u own.route opened.best.offer.unsettled own.labelled)
    where
      by : (s : Route) → label L u ≡ Some s → Source P case L u s → Admits P (taken case u d) L
      by s lab (from_settled c offer k) = taken_admits P good case rules u d opened L met admits s c lab offer k
      by s lab (from_unsettled e i imp empty over) =
          absurd (nothing_from_unsettled case rules L (met_weak P good case u d L met) admits without u s nothing leaves opened.best.offer.unsettled lab e i imp
          empty over)

  -- where nothing comes to a router that waits, the case admits nothing
  pub clear_dead : (case : Case) (rules : IsCase P case) (u p : ℕ) → NothingComes P case None u → label case.labels u ≡ None → waits_above case u ≡ Some p →
      ((c : Route) → IsOffer P case u c → preference_of c ≤ p) → (L : List (Option Route)) → IsWeaklyStable P L → ¬ Admits P case L
  clear_dead case rules u p nothing none waits low L w admits =
      let a = admits.waited u p none waits in
      by a.route a.above a.labelled (held_source P good case rules L w admits u a.route none a.labelled)
    where
      by : (s : Route) → p < preference_of s → label L u ≡ Some s → Source P case L u s → ⊥
      by s up lab (from_settled c offer k) =
          let l = low c offer in
          let q = same_preference P good s c k in
          omega (arith, up, l, q)
      by s up lab (from_unsettled e i imp empty over) =
          nothing_from_unsettled case rules L w admits None u s nothing (inl refl) none lab e i imp empty over

  -- ---- the case after a take

  module _ (case : Case) (u : ℕ) (d : Route) (opened : IsOpen P case u d) (within : u < length case.labels) where
    abbrev after : Case
    after = taken case u d

    passed_before : (v : ℕ) (r : Route) → label case.labels v ≡ None → label after.labels v ≡ None → Passes P after v r → Passes P case v r
    passed_before v r none still p = record {
      above = p.above;
      unbeaten = λ c o. p.unbeaten c (record {
        unsettled = still;
        candidate = candidate_kept P case.labels after.labels v c (set_extends case.labels u d opened.best.offer.unsettled) o.candidate;
      });
    }

    own_held : MayHold P case None u d
    own_held = holds_offer u d (record { unsettled = opened.best.offer.unsettled; kept = λ e. absurd (cc) }) opened.best.offer (record {
      above = opened.above;
      unbeaten = λ c o less. opened.best.best c o (weak_better (key_of P c) (key_of P d) less);
    })

    took_part : (v : ℕ) → TakesPart after None v → TakesPart case None v
    took_part v part = record {
      unsettled = (not_set case.labels u v d within part.unsettled).1;
      kept = λ e. absurd (cc);
    }

    -- what a router may hold then, it might hold before
    pub held_before : (v : ℕ) (r : Route) → MayHold P after None v r → MayHold P case None v r
    held_before v r (holds_offer _ _ part offer passes) = by offer.candidate
      where
        none : label case.labels v ≡ None
        none = (took_part v part).unsettled

        passed : Passes P case v r
        passed = passed_before v r none part.unsettled passes

        by : IsCandidate P after.labels v r → MayHold P case None v r
        by (of_init e) = holds_offer v r (took_part v part) (record { unsettled = none; candidate = of_init e }) passed
        by (of_edge e i imp over) = elim (at_set case.labels u e.exporter d over.from within over.labelled) [
          | inr old ↦ holds_offer v r (took_part v part) (record {
            unsettled = none;
            candidate = of_edge e i imp (record { from = over.from; labelled = old; stepped = over.stepped; passes = over.passes });
          }) passed
          | inl new ↦
              let st : step_over P e d ≡ Some r = subst (λ (x : Route). step_over P e x ≡ Some r) (sym new.1) over.stepped in
              let may : MayHold P case None e.exporter d = subst (λ x. MayHold P case None x d) (sym new.0) own_held in
              subst (λ x. MayHold P case None x r) imp (holds_import e d r i (subst (TakesPart case None) (sym imp) (took_part v part)) may st
              (subst (λ x. Passes P case x r) (sym imp) passed))
        ]
    held_before _ r (holds_import e from _ i part may st passes) =
        holds_import e from r i (took_part e.importer part) (held_before e.exporter from may) st
        (passed_before e.importer r (took_part e.importer part).unsettled part.unsettled passes)
