-- What `fold` and `lift` give is determined.
use Rattle.std.proofs.Common.{◌≡◌, ℕ, zero, suc, ◌<◌, ◌≤◌, List, length, Option, Some, None, sym, ap, ◌∙◌, subst, inl, inr, arith, ext_get_or}
use Rattle.std.specs.Prelude.{Contains}
use Rattle.base_kit.specs.declared.protocol.Protocol.TheVariants.{Bgp as OverBgp}
use Rattle.srp_core.specs.declared.route.Route.{Route}
use Rattle.base_kit.specs.declared.act_graph.Edge.{Edge}
use Rattle.srp_core.specs.Routes.{path_of, size_of, IsRouteOf, Key}
use Rattle.srp_core.specs.Acts.{prepended, IsActOf}
use Rattle.srp_core.specs.Problem.{Problem, count, number, initial, act_of, key_of, IsProblem}
use Rattle.srp_core.specs.Stability.{label, IsCandidateOver, IsCandidate, of_init, of_edge, IsStable}
use Rattle.srp_core.specs.Quotient.{group_of, IsAdmissible, IsQuotient, IsFirstMember}
use Rattle.srp_core.specs.Lifts.{IsLift, IsFold}
use Rattle.srp_core.proofs.Steps.{step_bgp, length_repeated, bgp_size, bgp_parts}
use Rattle.srp_core.proofs.Offers.{edge_act, cases_label, grows}
use Rattle.srp_core.proofs.GroupMatching.{equal_held}
use Rattle.srp_core.proofs.FoldedLabels.{first_member}
use Rattle.srp_core.proofs.LiftedLabels.{first_on}

-- candidates of one key from one exporter with one label are equal
same_candidate : (P : Problem) → IsProblem P → P.protocol ≡ OverBgp → (L L' : List (Option Route)) (e e' : Edge) (c c' : Route) → Contains P.edges e →
    Contains P.edges e' → IsRouteOf P.protocol c → IsRouteOf P.protocol c' → (o : IsCandidateOver P L e c) (o' : IsCandidateOver P L' e' c') →
    e.exporter ≡ e'.exporter → o.from ≡ o'.from → key_of P c ≡ key_of P c' → c ≡ c'
same_candidate P good bgp L L' e e' c c' i i' f f' o o' ends from k =
    let a = step_bgp (act_of P e) (number P e.exporter) o.from c (subst (λ p. IsActOf p (act_of P e)) bgp (edge_act P good e i)) o.stepped in
    let b = step_bgp (act_of P e') (number P e'.exporter) o'.from c' (subst (λ p. IsActOf p (act_of P e')) bgp (edge_act P good e' i')) o'.stepped in
    let g = subst (λ p. IsRouteOf p c) bgp f in
    let g' = subst (λ p. IsRouteOf p c') bgp f' in
    let size : size_of c ≡ size_of c' = ap (λ (q : Key). q.size) k in
    let sc = bgp_size c g in
    let sc' = bgp_size c' g' in
    let lc = ap length a.1 ∙ length_repeated (suc a.0) (number P e.exporter) (path_of o.from) in
    let lc' = ap length b.1 ∙ length_repeated (suc b.0) (number P e'.exporter) (path_of o'.from) in
    let lf : length (path_of o.from) ≡ length (path_of o'.from) = ap (λ r. length (path_of r)) from in
    let times : a.0 ≡ b.0 = omega (arith, size, sc, sc', lc, lc', lf) in
    let paths : path_of c ≡ path_of c' = a.1 ∙ (λ j. prepended (suc (times j)) (number P (ends j)) (path_of (from j))) ∙ sym b.1 in
    bgp_parts c c' g g' (ap (λ (q : Key). q.preference) k) paths (ap (λ (q : Key). q.comms) k)

module _ (S : Problem) (good : IsProblem S) (groups : List ℕ) (adm : IsAdmissible S groups) (Q : Problem) (goodq : IsProblem Q) (q : IsQuotient S groups Q)
  where
    module _ (bgp : S.protocol ≡ OverBgp) (L : List (Option Route)) (st : IsStable S L) (M M' : List (Option Route)) (fold : IsFold S Q groups L M)
        (fold' : IsFold S Q groups L M') where
      fold_step : (u : ℕ) (r : Route) → u < count S → IsFirstMember groups u → label L u ≡ Some r → IsCandidate S L u r →
          ((w : ℕ) (s : Route) → w < count S → size_of s < size_of r → label L w ≡ Some s → label M (group_of groups w) ≡ label M' (group_of groups w)) →
          label M (group_of groups u) ≡ label M' (group_of groups u)
      fold_step u r h first e (of_init i) before = fold.started u r h i ∙ sym (fold'.started u r h i)
      fold_step u r h first e (of_edge edge i imp over) before =
          let none : initial S u ≡ None = ap (initial S) (sym imp) ∙ good.starts.unoriginated bgp edge i in
          let on = first_on S good bgp L r edge i over in
          let t = fold.taken u edge.exporter r h first e none on in
          let t' = fold'.taken u edge.exporter r h first e none on in
          let k = t.2 in
          let k' = t'.2 in
          let lower = before edge.exporter over.from (good.edges.inside edge i).exporter_in (grows S good edge over.from r i over.stepped) over.labelled in
          let a : label M (group_of groups edge.exporter) ≡ Some k.over.from = ap (label M) (sym k.exporter) ∙ k.over.labelled in
          let b : label M' (group_of groups edge.exporter) ≡ Some k'.over.from = ap (label M') (sym k'.exporter) ∙ k'.over.labelled in
          let from : k.over.from ≡ k'.over.from = cc in
          let bgpq : Q.protocol ≡ OverBgp = sym q.protocol ∙ bgp in
          let same = same_candidate Q goodq bgpq M M' k.edge k'.edge t.0 t'.0 k.edge_in k'.edge_in (fold.fitting.routes (group_of groups u) t.0 t.1)
          (fold'.fitting.routes (group_of groups u) t'.0 t'.1) k.over k'.over (k.exporter ∙ sym k'.exporter) from (k.keyed ∙ sym k'.keyed) in
          t.1 ∙ ap Some same ∙ sym t'.1

      fold_at : (n u : ℕ) (r : Route) → size_of r < n → u < count S → label L u ≡ Some r → label M (group_of groups u) ≡ label M' (group_of groups u)
      fold_at zero u r less h e = absurd (omega arith)
      fold_at (suc n) u r less h e =
          let l = first_member groups u in
          let b = l.below in
          let inside : l.router < count S = omega arith in
          let k = equal_held S good groups adm L st u l.router r (record { left = h; right = inside; same = sym l.of_group }) e in
          let size : size_of k.route ≡ size_of r = ap (λ (x : Key). x.size) k.keyed in
          let here = fold_step l.router k.route inside (record { first = λ v less' same. l.first v less' (same ∙ l.of_group) }) k.labelled
          (st.held l.router k.route inside k.labelled) (λ w s hw lt ew. fold_at n w s (omega arith) hw ew) in
          subst (λ g. label M g ≡ label M' g) l.of_group here

      pub fold_unique : M ≡ M'
      fold_unique =
          let t = fold.fitting.total in
          let t' = fold'.fitting.total in
          ext_get_or None M M' (t ∙ sym t') (λ g h. (let o = q.onto g (omega arith) in
          subst (λ x. label M x ≡ label M' x) o.2 (elim (cases_label (label L o.0)) [
            | inr full ↦ fold_at (suc (size_of full.0)) o.0 full.0 (omega arith) o.1 full.1
            | inl empty ↦ fold.empty o.0 o.1 empty ∙ sym (fold'.empty o.0 o.1 empty)
          ])))

    module _ (bgp : Q.protocol ≡ OverBgp) (M : List (Option Route)) (st : IsStable Q M) (L L' : List (Option Route)) (lift : IsLift S Q groups M L)
        (lift' : IsLift S Q groups M L') where
      -- a candidate under the one labels is one under the others, where the exporter's labels agree
      moved : (A B : List (Option Route)) (e : Edge) (c : Route) → label A e.exporter ≡ label B e.exporter → IsCandidateOver S A e c → IsCandidateOver S B e c
      moved A B e c same o = record { from = o.from; labelled = sym same ∙ o.labelled; stepped = o.stepped; passes = o.passes }

      lift_step : (u : ℕ) (m : Route) → u < count S → label M (group_of groups u) ≡ Some m → IsCandidate Q M (group_of groups u) m →
          ((w : ℕ) (s : Route) → w < count S → size_of s < size_of m → label M (group_of groups w) ≡ Some s → label L w ≡ label L' w) → label L u ≡ label L' u
      lift_step u m h e (of_init i) before =
          let there : initial S u ≡ Some m = sym (q.origins u h) ∙ i in
          lift.started u m m h e there ∙ sym (lift'.started u m m h e there)
      lift_step u m h e (of_edge edge i imp over) before =
          let none : initial S u ≡ None = sym (q.origins u h) ∙ ap (initial Q) (sym imp) ∙ goodq.starts.unoriginated bgp edge i in
          let on = first_on Q goodq bgp M m edge i over in
          let t = lift.taken u edge.exporter m h e none on in
          let t' = lift'.taken u edge.exporter m h e none on in
          let k = t.2 in
          let k' = t'.2 in
          let g = grows Q goodq edge over.from m i over.stepped in
          let agree : (w : ℕ) → w < count S → group_of groups w ≡ edge.exporter → label L w ≡ label L' w =
          λ w hw x. before w over.from hw g (ap (label M) x ∙ over.labelled) in
          let a : label L k.edge.exporter ≡ label L' k.edge.exporter = agree k.edge.exporter (good.edges.inside k.edge k.edge_in).exporter_in k.exporter in
          let b : label L k'.edge.exporter ≡ label L' k'.edge.exporter =
          agree k'.edge.exporter (good.edges.inside k'.edge k'.edge_in).exporter_in k'.exporter in
          let le : k.edge.exporter ≤ k'.edge.exporter =
          k.least k'.edge t'.0 k'.edge_in k'.importer k'.exporter (moved L' L k'.edge t'.0 (sym b) k'.over) k'.keyed in
          let ge : k'.edge.exporter ≤ k.edge.exporter = k'.least k.edge t.0 k.edge_in k.importer k.exporter (moved L L' k.edge t.0 a k.over) k.keyed in
          let ends : k.edge.exporter ≡ k'.edge.exporter = omega arith in
          let la = k.over.labelled in
          let lb : label L' k.edge.exporter ≡ Some k'.over.from = ap (label L') ends ∙ k'.over.labelled in
          let from : k.over.from ≡ k'.over.from = cc in
          let same = same_candidate S good (q.protocol ∙ bgp) L L' k.edge k'.edge t.0 t'.0 k.edge_in k'.edge_in (lift.fitting.routes u t.0 t.1)
          (lift'.fitting.routes u t'.0 t'.1) k.over k'.over ends from (k.keyed ∙ sym k'.keyed) in
          t.1 ∙ ap Some same ∙ sym t'.1

      lift_at : (n u : ℕ) (m : Route) → size_of m < n → u < count S → label M (group_of groups u) ≡ Some m → label L u ≡ label L' u
      lift_at zero u m less h e = absurd (omega arith)
      lift_at (suc n) u m less h e = lift_step u m h e (st.held (group_of groups u) m (q.inside u h) e) (λ w s hw lt ew. lift_at n w s (omega arith) hw ew)

      pub lift_unique : L ≡ L'
      lift_unique =
          let t = lift.fitting.total in
          let t' = lift'.fitting.total in
          ext_get_or None L L' (t ∙ sym t') (λ u less. (let h : u < count S = omega arith in elim (cases_label (label M (group_of groups u))) [
            | inr full ↦ lift_at (suc (size_of full.0)) u full.0 (omega arith) h full.1
            | inl empty ↦ lift.empty u h empty ∙ sym (lift'.empty u h empty)
          ]))
