-- Labels that `fold` gives are stable and correspond; in OSPF labels of equal costs do.
use Rattle.std.proofs.Common.{◌≡◌, ◌≢◌, ◌⊎◌, ℕ, zero, suc, ◌<◌, List, Option, Some, None, refl, sym, ap, ◌∙◌, subst, inl, inr, arith}
use Rattle.std.proofs.lemmas.Bool.{cases_eq}
use Rattle.base_kit.specs.declared.protocol.Protocol.TheVariants.{Bgp as OverBgp}
use Rattle.srp_core.specs.declared.route.Route.{Route}
use Rattle.srp_core.specs.Routes.{path_of}
use Rattle.srp_core.specs.Acts.{prepended, IsActOf}
use Rattle.srp_core.specs.Problem.{Problem, count, number, initial, act_of, key_of, IsProblem}
use Rattle.srp_core.specs.Stability.{label, IsCandidate, of_init, of_edge, IsStable}
use Rattle.srp_core.specs.Quotient.{group_of, IsAdmissible, IsQuotient, Corresponds, IsFirstMember}
use Rattle.srp_core.specs.Lifts.{IsFirstOn, IsFold}
use Rattle.srp_core.proofs.Steps.{step_bgp}
use Rattle.srp_core.proofs.Offers.{edge_act, cases_label, label_in}
use Rattle.srp_core.proofs.Matching.{converse, keys_agree}
use Rattle.srp_core.proofs.Filling.{IsEven, IsGood, finished}
use Rattle.srp_core.proofs.GroupMatching.{IsIn, equal_held, quotient_matching, correspond}

pub record Least (groups : List ℕ) (wanted limit : ℕ) : Type 0 where
  pub router : ℕ
  pub below : router < limit
  pub of_group : group_of groups router ≡ wanted
  pub first : (v : ℕ) → v < router → group_of groups v ≢ wanted

least : (groups : List ℕ) (wanted n : ℕ) → Least groups wanted n ⊎ ((v : ℕ) → v < n → group_of groups v ≢ wanted)
least groups wanted zero = inr (λ v h e. omega arith)
least groups wanted (suc n) = elim (least groups wanted n) [
  | inl l ↦ (let b = l.below in inl (record { router = l.router; below = omega (arith, b); of_group = l.of_group; first = l.first }))
  | inr none_before ↦ elim (cases_eq (group_of groups n) wanted) [
    | inl e ↦ inl (record { router = n; below = omega arith; of_group = e; first = none_before })
    | inr differ ↦ inr (λ v h e. elim (cases_eq v n) [ inl s ↦ differ (ap (group_of groups) (sym s) ∙ e) | inr d ↦ none_before v (omega arith) e ])
  ]
]

pub first_member : (groups : List ℕ) (u : ℕ) → Least groups (group_of groups u) (suc u)
first_member groups u = elim (least groups (group_of groups u) (suc u)) [ inl l ↦ l | inr no_one ↦ absurd (no_one u (omega arith) refl) ]

module _ (S : Problem) (good : IsProblem S) (groups : List ℕ) (adm : IsAdmissible S groups) (Q : Problem) (goodq : IsProblem Q) (q : IsQuotient S groups Q)
    (bgp : S.protocol ≡ OverBgp) (L : List (Option Route)) (st : IsStable S L) (M : List (Option Route)) (fold : IsFold S Q groups L M) where
  record Folded (u : ℕ) (r : Route) : Type 0 where
    route : Route
    labelled : label M (group_of groups u) ≡ Some route
    candidate : IsCandidate Q M (group_of groups u) route
    keyed : key_of Q route ≡ key_of S r

  same_key : (r : Route) → key_of Q r ≡ key_of S r
  same_key r = sym (keys_agree S Q (IsIn S groups) (quotient_matching S good groups adm Q goodq q) r)

  folded_from : (u : ℕ) (r : Route) → u < count S → IsFirstMember groups u → label L u ≡ Some r → IsCandidate S L u r → Folded u r
  folded_from u r h first e (of_init i) = record { route = r; labelled = fold.started u r h i; candidate = of_init (q.origins u h ∙ i); keyed = same_key r }
  folded_from u r h first e (of_edge edge i imp over) =
      let none : initial S u ≡ None = ap (initial S) (sym imp) ∙ good.starts.unoriginated bgp edge i in
      let ge = good.edges.inside edge i in
      let k = step_bgp (act_of S edge) (number S edge.exporter) over.from r (subst (λ p. IsActOf p (act_of S edge)) bgp (edge_act S good edge i)) over.stepped
      in
      let on : IsFirstOn S (path_of r) edge.exporter =
      record {
        inside = ge.exporter_in;
        number_of = number S edge.exporter;
        rest = prepended k.0 (number S edge.exporter) (path_of over.from);
        path_is =
            k.1;
        numbered = refl;
        some_number = (good.numbers bgp).exporters edge i;
      } in
      let t = fold.taken u edge.exporter r h first e none on in
      record { route = t.0; labelled = t.1; candidate = of_edge t.2.edge t.2.edge_in t.2.importer t.2.over; keyed = t.2.keyed }

  folded : (u : ℕ) (r : Route) → u < count S → label L u ≡ Some r → Folded u r
  folded u r h e =
      let l = first_member groups u in
      let b = l.below in
      let inside : l.router < count S = omega arith in
      let k = equal_held S good groups adm L st u l.router r (record { left = h; right = inside; same = sym l.of_group }) e in
      let f = folded_from l.router k.route inside (record { first = λ v less same. l.first v less (same ∙ l.of_group) }) k.labelled
      (st.held l.router k.route inside k.labelled) in
      record {
        route = f.route;
        labelled = ap (label M) (sym l.of_group) ∙ f.labelled;
        candidate =
            subst (λ g. IsCandidate Q M g f.route) l.of_group f.candidate;
        keyed = f.keyed ∙ k.keyed;
      }

  folded_at : (u : ℕ) (m : Route) → u < count S → label M (group_of groups u) ≡ Some m → (r : Route) × (label L u ≡ Some r)
      × IsCandidate Q M (group_of groups u) m × (key_of S r ≡ key_of Q m)
  folded_at u m h e = elim (cases_label (label L u)) [
    | inl empty ↦ (let l = fold.empty u h empty in absurd (cc))
    | inr full ↦
        let k = folded u full.0 h full.1 in
        let same : k.route ≡ m = (let lk = k.labelled in cc) in
        (full.0, full.1, subst (IsCandidate Q M (group_of groups u)) same k.candidate, sym k.keyed ∙ ap (key_of Q) same)
  ]

  fold_good : IsGood Q S (λ g u. IsIn S groups u g) M L
  fold_good = record {
    supported = record {
      fitting = fold.fitting;
      held = λ g m e.
          (let i = label_in M g m e in let t = fold.fitting.total in
          let o = q.onto g (omega arith) in
          subst (λ h. IsCandidate Q M h m) o.2 (folded_at o.0 m o.1 (ap (label M) o.2 ∙ e)).2);
    };
    tied = record { held = λ g u m x e. (let k = folded_at u m x.inside (ap (label M) x.of_group ∙ e) in record { route = k.0; labelled = k.1; keyed = k.3 }) };
  }

  pub fold_solves : IsStable Q M × Corresponds S Q groups L M
  fold_solves =
      let even : IsEven S (λ g u. IsIn S groups u g) L =
      record {
        held = λ g u u' r x x' e. equal_held S good groups adm L st u u' r
            (record { left = x.inside; right = x'.inside; same = x.of_group ∙ sym x'.of_group }) e;
      } in
      let s = finished Q S (λ g u. IsIn S groups u g) (converse S Q (IsIn S groups) (quotient_matching S good groups adm Q goodq q)) goodq good L st even M
      fold_good (λ g u r x e. (let k = folded u r x.inside e in (k.route, ap (label M) (sym x.of_group) ∙ k.labelled))) in
      (s.0, correspond S good groups adm Q goodq q L M st s.0 s.2 s.1)
