-- Equal keys: stable labels along a matching of a problem with itself.
use Rattle.std.proofs.Common.{◌≡◌, ◌≢◌, ℕ, zero, suc, ◌<◌, ◌≤◌, true, false, List, Option, Some, refl, sym, ap, ◌∙◌, subst, inl, inr, arith}
use Rattle.std.specs.declared.cmp.Ordering.TheVariants.{Less}
use Rattle.std.proofs.lemmas.Bool.{cases_Bool, cases_lt}
use Rattle.srp_core.specs.declared.route.Route.{Route}
use Rattle.srp_core.specs.Routes.{preference_of, size_of, Key, compare_keys}
use Rattle.srp_core.specs.Problem.{Problem, number, initial, is_lone, key_of, IsProblem}
use Rattle.srp_core.specs.Stability.{label, IsCandidate, of_init, of_edge, IsStable}
use Rattle.srp_core.proofs.KeyOrder.{neither_better, not_longer}
use Rattle.srp_core.proofs.Offers.{Offer, offer_init, offer_edge, AsGood, candidate_offer, lone_bgp, one_preference, grows, candidate_as_good, raw_optimal}
use Rattle.srp_core.proofs.Matching.{IsMatching, Held, matched_step}

-- a label as long as the route, and no worse
record Half (S : Problem) (L : List (Option Route)) (v : ℕ) (r : Route) : Type 0 where
  route : Route
  labelled : label L v ≡ Some route
  as_good : compare_keys (key_of S r) (key_of S route) ≢ Less
  size : size_of route ≡ size_of r

module _ (S : Problem) (R : ℕ → ℕ → Type 0) (m : IsMatching S S R) (back : (u v : ℕ) → R u v → R v u) (good : IsProblem S) (L : List (Option Route))
    (st : IsStable S L) where
  lone_same : (u v : ℕ) → R u v → is_lone S u ≡ true → u ≡ v
  lone_same u v x l =
      let inside = m.left_in u v x in
      let bgp = lone_bgp S good u inside l in
      let a = (good.marks.only u inside l).first_accepted in
      let numbered : number S u ≢ 0 = subst (λ w. number S w ≢ 0) a.importer ((good.numbers bgp).importers a.edge a.edge_in) in
      (good.numbers bgp).distinct u v inside (m.right_in u v x) (m.numbers u v x l) numbered

  half_end : (u v : ℕ) (r c : Route) → R u v → is_lone S v ≡ false → label L u ≡ Some r →
      ((x y : ℕ) (s : Route) → size_of s < size_of r → R x y → label L x ≡ Some s → Held S L y (key_of S s)) → Offer S v c → key_of S c ≡ key_of S r →
      AsGood S L v c → Half S L v r
  half_end u v r c x l lab before offer k found =
      let inside = m.right_in u v x in
      let own = candidate_offer S good L v found.route st.fitting (st.held v found.route inside found.labelled) in
      let p : preference_of found.route ≡ preference_of c = one_preference S good v found.route c inside l own offer in
      let le : size_of found.route ≤ size_of c = not_longer (key_of S found.route) (key_of S c) p found.as_good in
      let size : size_of c ≡ size_of r = ap (λ (q : Key). q.size) k in
      let same : size_of found.route ≡ size_of r = elim (cases_lt (size_of found.route) (size_of r)) [
        | inr ge ↦ omega arith
        | inl less ↦
            let h = before v u found.route less (back u v x) found.labelled in
            let is_r : h.route ≡ r = cc in
            let size' : size_of h.route ≡ size_of found.route = ap (λ (q : Key). q.size) h.keyed in
            sym size' ∙ ap size_of is_r
      ] in
      record {
        route = found.route;
        labelled = found.labelled;
        as_good = subst (λ q. compare_keys q (key_of S found.route) ≢ Less) k found.as_good;
        size =
            same;
      }

  half_at : (u v : ℕ) (r : Route) → R u v → is_lone S u ≡ false → label L u ≡ Some r →
      ((x y : ℕ) (s : Route) → size_of s < size_of r → R x y → label L x ≡ Some s → Held S L y (key_of S s)) → IsCandidate S L u r → Half S L v r
  half_at u v r x l lab before (of_init e) =
      let there : initial S v ≡ Some r = sym (m.origins u v x) ∙ e in
      half_end u v r r x (sym (m.lone u v x) ∙ l) lab before (offer_init there) refl (candidate_as_good S good L st v r (m.right_in u v x) (of_init there))
  half_at u v r x l lab before (of_edge e i imp over) =
      let g = grows S good e over.from r i over.stepped in
      let l' : is_lone S v ≡ false = sym (m.lone u v x) ∙ l in
      elim (m.forth u v e x i imp) [
        | inr inner ↦
            let h = before e.exporter v over.from g inner.inner over.labelled in
            let size : size_of h.route ≡ size_of over.from = ap (λ (q : Key). q.size) h.keyed in
            let h' = before v u h.route (omega (arith, size, g)) (back u v x) h.labelled in
            let size' : size_of h'.route ≡ size_of h.route = ap (λ (q : Key). q.size) h'.keyed in
            let same : h'.route ≡ r = (let lb = h'.labelled in cc) in
            let size'' : size_of h'.route ≡ size_of r = ap size_of same in
            absurd (omega (arith, size, size', size'', g))
        | inl p ↦
            let h = before e.exporter p.other.exporter over.from g p.exporter over.labelled in
            let fit = st.fitting.routes e.exporter over.from over.labelled in
            let fit' = st.fitting.routes p.other.exporter h.route h.labelled in
            let t = matched_step S S R m good good e p.other over.from h.route r i p.other_in p.exporter p.alike fit fit' (sym h.keyed) over.stepped in
            let found = raw_optimal S good L st p.other h.route t.0 p.other_in (subst (λ w. is_lone S w ≡ false) (sym p.importer) l') h.labelled t.1 in
            half_end u v r t.0 x l' lab before (offer_edge p.other p.other_in p.importer h.route fit' t.1) (sym t.2)
            (subst (λ w. AsGood S L w t.0) p.importer found)
      ]

  half : (u v : ℕ) (r : Route) → R u v → label L u ≡ Some r →
      ((x y : ℕ) (s : Route) → size_of s < size_of r → R x y → label L x ≡ Some s → Held S L y (key_of S s)) → Half S L v r
  half u v r x lab before =
      elim (cases_Bool (is_lone S u)) [
        | inl l ↦
            let same = lone_same u v x l in
            record {
              route = r;
              labelled = subst (λ w. label L w ≡ Some r) same lab;
              as_good =
                  Rattle.srp_core.proofs.KeyOrder.irreflexive (key_of S r) (key_of S r) refl;
              size = refl;
            }
        | inr l ↦ half_at u v r x l lab before (st.held u r (m.left_in u v x) lab)
      ]

  pub even : (n u v : ℕ) (r : Route) → size_of r < n → R u v → label L u ≡ Some r → Held S L v (key_of S r)
  even zero u v r less x lab = absurd (omega arith)
  even (suc n) u v r less x lab =
      let h = half u v r x lab (λ x' y s less' z e. even n x' y s (omega arith) z e) in
      let size = h.size in
      let h' = half v u h.route (back u v x) h.labelled (λ x' y s less' z e. even n x' y s (omega arith) z e) in
      let same : h'.route ≡ r = (let lb = h'.labelled in cc) in
      let better : compare_keys (key_of S h.route) (key_of S r) ≢ Less = subst (λ q. compare_keys (key_of S h.route) (key_of S q) ≢ Less) same h'.as_good in
      record { route = h.route; labelled = h.labelled; keyed = neither_better (key_of S h.route) (key_of S r) better h.as_good }
