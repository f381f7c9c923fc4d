-- What a case offers, seen from labels that it admits.
use Rattle.std.proofs.Common.{◌≡◌, ◌≢◌, ◌⊎◌, ℕ, zero, suc, ◌<◌, ◌≤◌, List, [], ◌∷◌, Option, Some, None, refl, sym, ap, ◌∙◌, subst, inl, inr, arith}
use Rattle.std.specs.Prelude.{Contains}
use Rattle.std.specs.declared.cmp.Ordering.{Ordering}
use Rattle.std.specs.declared.cmp.Ordering.TheVariants.{Less, Equal, Greater}
use Rattle.base_kit.specs.declared.act_graph.Edge.{Edge}
use Rattle.base_kit.proofs.Elements.{In, contains_in, in_contains}
use Rattle.srp_core.specs.declared.route.Route.{Route}
use Rattle.srp_core.specs.declared.route.Candidate.{Candidate}
use Rattle.srp_core.specs.Routes.{preference_of, size_of, compare_keys}
use Rattle.srp_core.specs.Problem.{Problem, key_of, IsProblem}
use Rattle.srp_core.specs.Stability.{label, AreLabels, IsCandidateOver, IsCandidate, of_init, of_edge, IsStable}
use Rattle.srp_core.specs.Candidates.{candidates}
use Rattle.srp_core.specs.Weak.{IsWeaklyStable}
use Rattle.srp_core.proofs.CandidateLists.{candidates_sound, candidates_complete}
use Rattle.srp_core.proofs.KeyOrder.{key_total, irreflexive, not_better, shorter}
use Rattle.srp_core.proofs.Offers.{cases_label, IsSupported, AsGood, grows}
use Rattle.solution_search.specs.Cases.{Case, waits_above, IsOffer, IsBestOffer, IsAbove, IsOpen, IsNext, IsCase, HoldsKey, Admits}
use Rattle.solution_search.proofs.WeakOrder.{IsNoWorse, higher, not_longer, no_worse, weakly_no_worse, no_worse_both}
use Rattle.solution_search.proofs.Carried.{AreKept, IsCarried, as_candidate, as_shorter, IsCarriedOver, over_edge, over_loop, candidate_in, stable_weak, weak_supported, carried_over, carried, label_inside}

pub less_or_not : (o : Ordering) → (o ≡ Less) ⊎ (o ≢ Less)
less_or_not Less = inl refl
less_or_not Equal = inr (λ e. absurd (cc))
less_or_not Greater = inr (λ e. absurd (cc))

-- a member that no member beats
record BestOf (P : Problem) (all : List Candidate) : Type 0 where
  member : Candidate
  inside : In all member
  best : (k : Candidate) → In all k → compare_keys (key_of P k.route) (key_of P member.route) ≢ Less

best_of : (P : Problem) (k : Candidate) (all : List Candidate) → BestOf P (k ∷ all)
best_of P k [] = record {
  member = k;
  inside = inl refl;
  best = λ d i. elim i [
    | inl same ↦ irreflexive (key_of P d.route) (key_of P k.route) (ap (λ (x : Candidate). key_of P x.route) (sym same))
    | inr nil ↦ absurd nil
  ];
}
best_of P k (next ∷ all) =
    let b = best_of P next all in
    elim (less_or_not (compare_keys (key_of P k.route) (key_of P b.member.route))) [
      | inl less ↦ record {
        member = k;
        inside = inl refl;
        best = λ d i. elim i [
          | inl same ↦ irreflexive (key_of P d.route) (key_of P k.route) (ap (λ (x : Candidate). key_of P x.route) (sym same))
          | inr there ↦ λ l. b.best d there (key_total.trans (key_of P d.route) (key_of P k.route) (key_of P b.member.route) l less)
        ];
      }
      | inr kept ↦ record {
        member = b.member;
        inside = inr b.inside;
        best = λ d i. elim i [
          | inl same ↦ subst (λ (x : Candidate). compare_keys (key_of P x.route) (key_of P b.member.route) ≢ Less) same kept
          | inr there ↦ b.best d there
        ];
      }
    ]

best_where : (P : Problem) (all : List Candidate) (k : Candidate) → In all k → BestOf P all
best_where P [] k i = absurd i
best_where P (first ∷ all) k i = best_of P first all

pub above_by : (o : Option ℕ) (q : ℕ) → ((p : ℕ) → o ≡ Some p → p < q) → IsAbove o q
above_by None q h = tt
above_by (Some p) q h = h p refl

-- the router has a label that is weakly no worse than the route
pub record HoldsNoWorse (P : Problem) (L : List (Option Route)) (u : ℕ) (c : Route) : Type 0 where
  pub route : Route
  pub labelled : label L u ≡ Some route
  pub no_worse : IsNoWorse (key_of P route) (key_of P c)

-- where the label of a router that is not settled comes from: it has the key of an offer, or comes from a router
-- that is not settled
pub data Source (P : Problem) (case : Case) (L : List (Option Route)) (u : ℕ) (s : Route) : Type 0 where
  from_settled : (c : Route) → IsOffer P case u c → key_of P s ≡ key_of P c → Source P case L u s
  from_unsettled : (e : Edge) → Contains P.edges e → e.importer ≡ u → label case.labels e.exporter ≡ None → IsCandidateOver P L e s → Source P case L u s

-- an open router whose best offer has the preference and the size of the route
pub record OpenLike (P : Problem) (case : Case) (u : ℕ) (s : Route) : Type 0 where
  pub route : Route
  pub is_open : IsOpen P case u route
  pub preference : preference_of route ≡ preference_of s
  pub size : size_of route ≡ size_of s

module _ (P : Problem) (good : IsProblem P) where
  -- labels that hold kept keys are no worse than candidates
  pub kept_bind : (E L : List (Option Route)) → AreLabels P E → IsWeaklyStable P L → AreKept P E L → (u : ℕ) (c : Route) →
      IsCandidate P E u c → HoldsNoWorse P L u c
  kept_bind E L fits w kept u c cand = by (carried P good E L fits (weak_supported P good L w) kept u c cand)
    where
      by : IsCarried P L u c → HoldsNoWorse P L u c
      by (as_candidate d cd k) = elim (cases_label (label L u)) [
        | inl empty ↦ absurd (w.none u d (candidate_in P good L u d cd) empty cd)
        | inr full ↦ record {
          route = full.0;
          labelled = full.1;
          no_worse = subst (IsNoWorse (key_of P full.0)) (sym k)
              (weakly_no_worse (key_of P full.0) (key_of P d) (w.best u full.0 d (candidate_in P good L u d cd) full.1 cd));
        }
      ]
      by (as_shorter h) =
          let s = h.shorter in
          record { route = h.route; labelled = h.labelled; no_worse = not_longer h.preference (omega (arith, s)) }

  pub kept_bind_stable : (E L : List (Option Route)) → AreLabels P E → IsStable P L → AreKept P E L → (u : ℕ) (c : Route) →
      IsCandidate P E u c → AsGood P L u c
  kept_bind_stable E L fits st kept u c cand =
      by (carried P good E L fits (weak_supported P good L (stable_weak P good L st)) kept u c cand)
    where
      by : IsCarried P L u c → AsGood P L u c
      by (as_candidate d cd k) = elim (cases_label (label L u)) [
        | inl empty ↦ absurd (st.none u d (candidate_in P good L u d cd) empty cd)
        | inr full ↦ record {
          route = full.0;
          labelled = full.1;
          as_good = subst (λ q. compare_keys q (key_of P full.0) ≢ Less) (sym k) (st.best u full.0 d (candidate_in P good L u d cd) full.1 cd);
        }
      ]
      by (as_shorter h) = record {
        route = h.route;
        labelled = h.labelled;
        as_good = not_better (key_of P h.route) (key_of P c) (shorter (key_of P h.route) (key_of P c) h.preference h.shorter);
      }

  pub best_exists : (case : Case) (u : ℕ) (c : Route) → IsOffer P case u c → (d : Route) × IsBestOffer P case u d
  best_exists case u c offer =
      let k = candidates_complete P case.labels u c offer.candidate in
      let b = best_where P (candidates P case.labels u) k.0 (in_contains (candidates P case.labels u) k.0 k.1) in (
        b.member.route,
        record {
          offer = record {
            unsettled = offer.unsettled;
            candidate = candidates_sound P case.labels u b.member (contains_in (candidates P case.labels u) b.member b.inside);
          };
          best = λ other o.
              (let m = candidates_complete P case.labels u other o.candidate in
              subst (λ r. compare_keys (key_of P r) (key_of P b.member.route) ≢ Less) m.2
              (b.best m.0 (in_contains (candidates P case.labels u) m.0 m.1)));
        },
      )

  pub case_supported : (case : Case) → IsCase P case → IsSupported P case.labels
  case_supported case rules = record { fitting = rules.fitting; held = rules.held }

  pub admits_kept : (case : Case) (L : List (Option Route)) → Admits P case L → AreKept P case.labels L
  admits_kept case L admits = record { keys = admits.settled }

  module _ (case : Case) (rules : IsCase P case) (L : List (Option Route)) (w : IsWeaklyStable P L) (admits : Admits P case L) where
    -- a label is weakly no worse than an offer
    pub offers_bind : (u : ℕ) (c : Route) → IsCandidate P case.labels u c → HoldsNoWorse P L u c
    offers_bind u c cand = kept_bind case.labels L rules.fitting w (admits_kept case L admits) u c cand

    pub source : (u : ℕ) (s : Route) → label case.labels u ≡ None → IsCandidate P L u s → Source P case L u s
    source u s none (of_init e) = from_settled s (record { unsettled = none; candidate = of_init e }) refl
    source u s none (of_edge e i imp over) = elim (cases_label (label case.labels e.exporter)) [
      | inl empty ↦ from_unsettled e i imp empty over
      | inr full ↦
          let h = admits.settled e.exporter full.0 full.1 in
          let same : h.route ≡ over.from = (let l = h.labelled in let m = over.labelled in cc) in
          let held : HoldsKey P case.labels e.exporter (key_of P over.from) =
          record { route = full.0; labelled = full.1; keyed = sym h.keyed ∙ ap (key_of P) same } in
          by (carried_over P good L case.labels w.fitting (case_supported case rules) e s i over held)
    ]
      where
        by : IsCarriedOver P case.labels e s → Source P case L u s
        by (over_edge d o k) = from_settled d (record { unsettled = none; candidate = of_edge e i imp o }) k
        by (over_loop h) = let there : label case.labels u ≡ Some h.route = subst (λ v. label case.labels v ≡ Some h.route) imp h.labelled in absurd (cc)

    pub held_source : (u : ℕ) (s : Route) → label case.labels u ≡ None → label L u ≡ Some s → Source P case L u s
    held_source u s none e = source u s none (w.held u s (label_inside P good L w.fitting u s e) e)

    -- a router whose label has the key of an offer is open
    pub open_like : (u : ℕ) (s c : Route) → label L u ≡ Some s → IsOffer P case u c → key_of P s ≡ key_of P c → OpenLike P case u s
    open_like u s c lab offer k =
        let b = best_exists case u c offer in
        let h = offers_bind u b.0 b.1.offer.candidate in
        let same : h.route ≡ s = (let l = h.labelled in cc) in
        let there : IsNoWorse (key_of P s) (key_of P b.0) = subst (λ r. IsNoWorse (key_of P r) (key_of P b.0)) same h.no_worse in
        let back : IsNoWorse (key_of P b.0) (key_of P s) =
        subst (IsNoWorse (key_of P b.0)) (sym k) (no_worse (key_of P b.0) (key_of P c) (b.1.best c offer)) in
        let both = no_worse_both (key_of P b.0) (key_of P s) back there in
        record {
          route = b.0;
          is_open = record {
            best = b.1;
            above = above_by (waits_above case u) (preference_of b.0) (λ p e.
                (let a = admits.waited u p offer.unsettled e in
                let is_s : a.route ≡ s = (let l = a.labelled in cc) in
                let up = a.above in
                let q : preference_of a.route ≡ preference_of s = ap preference_of is_s in
                let q' = both.0 in
                omega (arith, up, q, q')));
          };
          preference = both.0;
          size = both.1;
        }

    -- no label of a router that is not settled is smaller than all best offers of open routers
    pub not_smaller : (n : ℕ) → ((v : ℕ) (d : Route) → IsOpen P case v d → n ≤ size_of d) → (k u : ℕ) (s : Route) → size_of s < k →
        label case.labels u ≡ None → label L u ≡ Some s → n ≤ size_of s
    not_smaller n least zero u s less none lab = absurd (omega arith)
    not_smaller n least (suc k) u s less none lab = by (held_source u s none lab) (λ v r l m e. not_smaller n least k v r l m e)
      where
        by : Source P case L u s → ((v : ℕ) (r : Route) → size_of r < k → label case.labels v ≡ None → label L v ≡ Some r → n ≤ size_of r) → n ≤ size_of s
        by (from_settled c offer key) before =
            let o = open_like u s c lab offer key in
            let l = least u o.route o.is_open in
            let z = o.size in
            omega (arith, l, z)
        by (from_unsettled e i imp empty over) before =
            let g = grows P good e over.from s i over.stepped in
            let l = before e.exporter over.from (omega (arith, g, less)) empty over.labelled in
            omega (arith, l, g)

    -- what the next router holds from a router that is not settled has a higher preference than its best offer
    pub higher_from_unsettled : (u : ℕ) (d s : Route) → IsNext P case u d → label L u ≡ Some s → (e : Edge) → Contains P.edges e →
        label case.labels e.exporter ≡ None → IsCandidateOver P L e s → preference_of d < preference_of s
    higher_from_unsettled u d s next lab e i empty over =
        let n = not_smaller (size_of d) next.smallest (suc (size_of over.from)) e.exporter over.from (omega arith) empty over.labelled in
        let g = grows P good e over.from s i over.stepped in
        let h = offers_bind u d next.is_open.best.offer.candidate in
        let same : h.route ≡ s = (let l = h.labelled in cc) in
        by n g (subst (λ r. IsNoWorse (key_of P r) (key_of P d)) same h.no_worse)
      where
        by : size_of d ≤ size_of over.from → size_of over.from < size_of s → IsNoWorse (key_of P s) (key_of P d) → preference_of d < preference_of s
        by n g (higher h) = h
        by n g (not_longer p l) = absurd (omega (arith, n, g, l))
