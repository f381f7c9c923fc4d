-- Labels that `lift` gives are stable, correspond, and track the group's path.
use Rattle.std.proofs.Common.{◌≡◌, ℕ, zero, suc, ◌<◌, List, [], ◌∷◌, length, Option, Some, None, refl, sym, ap, ◌∙◌, subst, inl, inr, arith}
use Rattle.std.specs.Prelude.{Contains}
use Rattle.base_kit.specs.declared.protocol.Protocol.TheVariants.{Bgp as OverBgp}
use Rattle.srp_core.specs.declared.route.Route.{Route}
use Rattle.base_kit.specs.declared.act_graph.Edge.{Edge}
use Rattle.srp_core.specs.Routes.{size_of, path_of, IsRouteOf, Key}
use Rattle.srp_core.specs.Acts.{prepended, IsActOf}
use Rattle.srp_core.specs.Problem.{Problem, count, number, initial, act_of, key_of, IsProblem}
use Rattle.srp_core.specs.Stability.{label, IsCandidateOver, IsCandidate, of_init, of_edge, IsStable}
use Rattle.srp_core.specs.Quotient.{group_of, IsAdmissible, IsQuotient, Corresponds}
use Rattle.srp_core.specs.Lifts.{IsFirstOn, IsLift, Tracks, AllTrack}
use Rattle.srp_core.proofs.Steps.{step_bgp, length_repeated, bgp_size}
use Rattle.srp_core.proofs.Offers.{edge_act, cases_label, label_in, grows}
use Rattle.srp_core.proofs.Matching.{keys_agree}
use Rattle.srp_core.proofs.Filling.{IsEven, IsGood, finished}
use Rattle.srp_core.proofs.GroupMatching.{IsIn, quotient_matching, correspond}

-- an edge over which a route came
pub first_on : (P : Problem) → IsProblem P → P.protocol ≡ OverBgp → (M : List (Option Route)) (m : Route) (e : Edge) → Contains P.edges e →
    IsCandidateOver P M e m → IsFirstOn P (path_of m) e.exporter
first_on P good bgp M m e i over =
    let ge = good.edges.inside e i in
    let k = step_bgp (act_of P e) (number P e.exporter) over.from m (subst (λ p. IsActOf p (act_of P e)) bgp (edge_act P good e i)) over.stepped in
    record {
      inside = ge.exporter_in;
      number_of = number P e.exporter;
      rest = prepended k.0 (number P e.exporter) (path_of over.from);
      path_is = k.1;
      numbered =
          refl;
      some_number = (good.numbers bgp).exporters e i;
    }

module _ (S : Problem) (good : IsProblem S) (groups : List ℕ) (adm : IsAdmissible S groups) (Q : Problem) (goodq : IsProblem Q) (q : IsQuotient S groups Q)
    (bgp : Q.protocol ≡ OverBgp) (M : List (Option Route)) (st : IsStable Q M) (L : List (Option Route)) (lift : IsLift S Q groups M L) where
  record Lifted (u : ℕ) (m : Route) : Type 0 where
    route : Route
    labelled : label L u ≡ Some route
    candidate : IsCandidate S L u route
    keyed : key_of S route ≡ key_of Q m

  lifted_from : (u : ℕ) (m : Route) → u < count S → label M (group_of groups u) ≡ Some m → IsCandidate Q M (group_of groups u) m → Lifted u m
  lifted_from u m h e (of_init i) =
      let there : initial S u ≡ Some m = sym (q.origins u h) ∙ i in
      record {
        route = m;
        labelled = lift.started u m m h e there;
        candidate = of_init there;
        keyed =
            keys_agree S Q (IsIn S groups) (quotient_matching S good groups adm Q goodq q) m;
      }
  lifted_from u m h e (of_edge edge i imp over) =
      let none : initial S u ≡ None = sym (q.origins u h) ∙ ap (initial Q) (sym imp) ∙ goodq.starts.unoriginated bgp edge i in
      let t = lift.taken u edge.exporter m h e none (first_on Q goodq bgp M m edge i over) in
      record { route = t.0; labelled = t.1; candidate = of_edge t.2.edge t.2.edge_in t.2.importer t.2.over; keyed = t.2.keyed }

  lifted : (u : ℕ) (m : Route) → u < count S → label M (group_of groups u) ≡ Some m → Lifted u m
  lifted u m h e = lifted_from u m h e (st.held (group_of groups u) m (q.inside u h) e)

  -- each label of L is one of those
  lifted_at : (u : ℕ) (r : Route) → u < count S → label L u ≡ Some r → (m : Route) × (label M (group_of groups u) ≡ Some m) × IsCandidate S L u r
      × (key_of Q m ≡ key_of S r)
  lifted_at u r h e = elim (cases_label (label M (group_of groups u))) [
    | inl empty ↦ (let l = lift.empty u h empty in absurd (cc))
    | inr full ↦
        let k = lifted u full.0 h full.1 in
        let same : k.route ≡ r = (let lk = k.labelled in cc) in
        (full.0, full.1, subst (IsCandidate S L u) same k.candidate, sym k.keyed ∙ ap (key_of S) same)
  ]

  inside_of : (u : ℕ) (r : Route) → label L u ≡ Some r → u < count S
  inside_of u r e = let l = label_in L u r e in let t = lift.fitting.total in omega arith

  lift_good : IsGood S Q (IsIn S groups) L M
  lift_good = record {
    supported = record { fitting = lift.fitting; held = λ u r e. (lifted_at u r (inside_of u r e) e).2 };
    tied = record {
      held = λ u g r x e. (let k = lifted_at u r x.inside e in
          record { route = k.0; labelled = subst (λ h. label M h ≡ Some k.0) x.of_group k.1; keyed = k.3 });
    };
  }

  pub lift_solves : IsStable S L × Corresponds S Q groups L M
  lift_solves =
      let even : IsEven Q (IsIn S groups) M = record {
        held = λ u g g' r x x' e. (let same : g ≡ g' = sym x.of_group ∙ x'.of_group in
            record { route = r; labelled = subst (λ h. label M h ≡ Some r) same e; keyed = refl });
      } in
      let s = finished S Q (IsIn S groups) (quotient_matching S good groups adm Q goodq q) good goodq M st even L lift_good
      (λ u g m x e. (let k = lifted u m x.inside (subst (λ h. label M h ≡ Some m) (sym x.of_group) e) in (k.route, k.labelled))) in
      (s.0, correspond S good groups adm Q goodq q L M s.0 st s.1 s.2)

  track_length : (p r : List ℕ) → AllTrack S Q groups p r → length p ≡ length r
  track_length [] [] t = refl
  track_length [] (y ∷ r) t = absurd t
  track_length (x ∷ p) [] t = absurd t
  track_length (x ∷ p) (y ∷ r) t = let e = track_length p r t.1 in omega (arith, e)

  track_repeated : (k x y : ℕ) (p r : List ℕ) → Tracks S Q groups x y → AllTrack S Q groups p r → AllTrack S Q groups (prepended k x p) (prepended k y r)
  track_repeated zero x y p r t a = a
  track_repeated (suc k) x y p r t a = (t, track_repeated k x y p r t a)

  track_from : (n u : ℕ) (r m : Route) → size_of r < n → u < count S → label L u ≡ Some r → label M (group_of groups u) ≡ Some m →
      IsCandidate Q M (group_of groups u) m → AllTrack S Q groups (path_of r) (path_of m)
  track_from zero u r m less h e f cand = absurd (omega arith)
  track_from (suc n) u r m less h e f (of_init i) =
      let there : initial S u ≡ Some m = sym (q.origins u h) ∙ i in
      let own = lift.started u m m h f there in
      let same : r ≡ m = cc in
      let no_path : path_of m ≡ [] = goodq.starts.paths (group_of groups u) m i in
      subst (λ p. AllTrack S Q groups p (path_of m)) (sym (ap path_of same)) (subst (λ p. AllTrack S Q groups p p) (sym no_path) tt)
  track_from (suc n) u r m less h e f (of_edge edge i imp over) =
      let none : initial S u ≡ None = sym (q.origins u h) ∙ ap (initial Q) (sym imp) ∙ goodq.starts.unoriginated bgp edge i in
      let t = lift.taken u edge.exporter m h f none (first_on Q goodq bgp M m edge i over) in
      let same : t.0 ≡ r = (let l = t.1 in cc) in
      let k = t.2 in
      let gk = good.edges.inside k.edge k.edge_in in
      let bgps : S.protocol ≡ OverBgp = q.protocol ∙ bgp in
      let low = step_bgp (act_of Q edge) (number Q edge.exporter) over.from m (subst (λ p. IsActOf p (act_of Q edge)) bgp (edge_act Q goodq edge i))
      over.stepped in
      let up = step_bgp (act_of S k.edge) (number S k.edge.exporter) k.over.from t.0
      (subst (λ p. IsActOf p (act_of S k.edge)) bgps (edge_act S good k.edge k.edge_in)) k.over.stepped in
      let g = grows S good k.edge k.over.from t.0 k.edge_in k.over.stepped in
      let sizes : size_of t.0 ≡ size_of r = ap size_of same in
      let at_group : label M (group_of groups k.edge.exporter) ≡ Some over.from = ap (label M) k.exporter ∙ over.labelled in
      let before = track_from n k.edge.exporter k.over.from over.from (omega arith) gk.exporter_in k.over.labelled at_group
      (st.held (group_of groups k.edge.exporter) over.from (q.inside k.edge.exporter gk.exporter_in) at_group) in
      let lengths = track_length (path_of k.over.from) (path_of over.from) before in
      let size_up = bgp_size t.0 (subst (λ p. IsRouteOf p t.0) bgps (lift.fitting.routes u t.0 t.1)) in
      let size_low = bgp_size m (subst (λ p. IsRouteOf p m) bgp (st.fitting.routes (group_of groups u) m f)) in
      let equal : size_of t.0 ≡ size_of m = ap (λ (x : Key). x.size) k.keyed in
      let count_up = ap length up.1 ∙ length_repeated (suc up.0) (number S k.edge.exporter) (path_of k.over.from) in
      let count_low = ap length low.1 ∙ length_repeated (suc low.0) (number Q edge.exporter) (path_of over.from) in
      let times : up.0 ≡ low.0 = omega (arith, lengths, size_up, size_low, equal, count_up, count_low) in
      let tracks : Tracks S Q groups (number S k.edge.exporter) (number Q edge.exporter) =
      record { router = k.edge.exporter; inside = gk.exporter_in; numbered = refl; number_of_group = ap (number Q) k.exporter } in
      let all = track_repeated (suc low.0) (number S k.edge.exporter) (number Q edge.exporter) (path_of k.over.from) (path_of over.from) tracks before in
      let upper : path_of r ≡ prepended (suc low.0) (number S k.edge.exporter) (path_of k.over.from) = ap path_of (sym same) ∙ up.1
      ∙ ap (λ n. prepended (suc n) (number S k.edge.exporter) (path_of k.over.from)) times in
      subst (λ p. AllTrack S Q groups p (path_of m)) (sym upper)
      (subst (AllTrack S Q groups (prepended (suc low.0) (number S k.edge.exporter) (path_of k.over.from))) (sym low.1) all)

  pub tracking : (u : ℕ) (r m : Route) → label L u ≡ Some r → label M (group_of groups u) ≡ Some m → AllTrack S Q groups (path_of r) (path_of m)
  tracking u r m e f = let h = inside_of u r e in track_from (suc (size_of r)) u r m (omega arith) h e f (st.held (group_of groups u) m (q.inside u h) f)
