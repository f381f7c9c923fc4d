-- Labels that folding asks for exist: the groups are filled by the sizes of their members' labels.
use Rattle.std.proofs.Common.{◌≡◌, ℕ, ◌<◌, List, Option, Some, None, refl, sym, ap, ◌∙◌, subst, inl, inr, arith}
use Rattle.std.proofs.lemmas.Bool.{cases_lt}
use Rattle.base_kit.specs.declared.protocol.Protocol.TheVariants.{Bgp as OverBgp}
use Rattle.srp_core.specs.declared.route.Route.{Route}
use Rattle.srp_core.specs.Routes.{path_of, size_of, Key}
use Rattle.srp_core.specs.Problem.{Problem, count, initial, key_of, IsProblem}
use Rattle.srp_core.specs.Stability.{label, IsCandidate, of_init, of_edge, IsStable}
use Rattle.srp_core.specs.Quotient.{group_of, IsAdmissible, IsFirstMember, IsQuotient}
use Rattle.srp_core.specs.Lifts.{IsFirstOn, GroupTakes, IsFold}
use Rattle.srp_core.proofs.Offers.{cases_label}
use Rattle.srp_core.proofs.Matching.{converse, keys_agree}
use Rattle.srp_core.proofs.Filling.{IsEven, IsGood, Extends, IsFilled, IsChoice, chosen_labels}
use Rattle.srp_core.proofs.GroupMatching.{IsIn, equal_held, quotient_matching}
use Rattle.srp_core.proofs.FoldedLabels.{first_member}
use Rattle.srp_core.proofs.LiftedLabels.{first_on}
use Rattle.srp_core.proofs.Sources.{first_is, fold_next}

module _ (S : Problem) (good : IsProblem S) (groups : List ℕ) (adm : IsAdmissible S groups) (Q : Problem) (goodq : IsProblem Q) (q : IsQuotient S groups Q)
    (bgp : S.protocol ≡ OverBgp) (L : List (Option Route)) (st : IsStable S L) where
  -- the group has the initial route of its first member, or takes its route as folding asks for
  pub record Picked (E : List (Option Route)) (g : ℕ) (m : Route) : Type 0 where
    pub started : (u : ℕ) (i : Route) → u < count S → group_of groups u ≡ g → initial S u ≡ Some i → m ≡ i
    pub taken : (u source : ℕ) (r : Route) → u < count S → group_of groups u ≡ g → IsFirstMember groups u → label L u ≡ Some r → initial S u ≡ None →
        IsFirstOn S (path_of r) source → GroupTakes S Q E g (group_of groups source) m r

  takes_kept : (E E' : List (Option Route)) (g h : ℕ) (m r : Route) → Extends E E' → GroupTakes S Q E g h m r → GroupTakes S Q E' g h m r
  takes_kept E E' g h m r ext t = record {
    edge = t.edge;
    edge_in = t.edge_in;
    importer = t.importer;
    exporter = t.exporter;
    over = record { from = t.over.from; labelled = ext.kept t.edge.exporter t.over.from t.over.labelled; stepped = t.over.stepped; passes = t.over.passes };
    keyed = t.keyed;
  }

  pub kept : (E E' : List (Option Route)) (g : ℕ) (m : Route) → Extends E E' → Picked E g m → Picked E' g m
  kept E E' g m ext p = record {
    started = p.started;
    taken = λ u source r h x first e none on. takes_kept E E' g (group_of groups source) m r ext (p.taken u source r h x first e none on);
  }

  pub one_first : (u v : ℕ) → group_of groups u ≡ group_of groups v → IsFirstMember groups u → IsFirstMember groups v → u ≡ v
  one_first u v same f f' = elim (cases_lt u v) [
    | inl less ↦ absurd (f'.first u less same)
    | inr ge ↦ elim (cases_lt v u) [ inl less ↦ absurd (f.first v less (sym same)) | inr le ↦ omega arith ]
  ]

  pub even : IsEven S (λ g u. IsIn S groups u g) L
  even = record {
    held = λ g u u' r x x' e.
        equal_held S good groups adm L st u u' r (record { left = x.inside; right = x'.inside; same = x.of_group ∙ sym x'.of_group }) e;
  }

  abbrev pub Made : (E : List (Option Route)) (g : ℕ) (s : Route) → Type 0
  Made E g s = (m : Route) × Picked E g m × IsCandidate Q E g m × (key_of Q m ≡ key_of S s)

  make_started : (E : List (Option Route)) (u : ℕ) (s i : Route) → u < count S → label L u ≡ Some s → initial S u ≡ Some i → IsCandidate S L u s →
      Made E (group_of groups u) s
  make_started E u s i h e init (of_edge edge im imp over) =
      (let none : initial S u ≡ None = ap (initial S) (sym imp) ∙ good.starts.unoriginated bgp edge im in absurd (cc))
  make_started E u s i h e init (of_init f) = (
    s,
    record {
      started = λ v j hv x there. (let same : initial S v ≡ initial S u = adm.origins v u hv h x in (let k : Some j ≡ Some s = sym there ∙ same ∙ f in cc));
      taken = λ v source r hv x first ev none on. (let same : initial S v ≡ initial S u = adm.origins v u hv h x in absurd (cc));
    },
    of_init (q.origins u h ∙ f),
    sym (keys_agree S Q (IsIn S groups) (quotient_matching S good groups adm Q goodq q) s),
  )

  make_taken : (E : List (Option Route)) → IsGood Q S (λ g u. IsIn S groups u g) E L → (u : ℕ) (s : Route) → u < count S → IsFirstMember groups u →
      label L u ≡ Some s → initial S u ≡ None → label E (group_of groups u) ≡ None → IsFilled (λ g u. IsIn S groups u g) E L (size_of s) → IsCandidate S L u s →
      Made E (group_of groups u) s
  make_taken E state u s h first e none empty before (of_init f) = absurd (cc)
  make_taken E state u s h first e none empty before (of_edge edge i imp over) =
      let on = first_on S good bgp L s edge i over in
      let t = fold_next S good groups adm Q goodq q bgp L st E state u edge.exporter s h e none empty before on in (
        t.0,
        record {
          started = λ v j hv x there. (let same : initial S v ≡ initial S u = adm.origins v u hv h x in absurd (cc));
          taken = λ v source r hv x first' ev none' on'.
              (let same : v ≡ u = one_first v u x first' first in
              let lv : label L u ≡ Some r = subst (λ w. label L w ≡ Some r) same ev in
              let is : s ≡ r = cc in
              let w : source ≡ edge.exporter = first_is S good bgp L s edge source i over (subst (λ p. IsFirstOn S (path_of p) source) (sym is) on') in
              subst (λ n. GroupTakes S Q E (group_of groups u) (group_of groups n) t.0 r) (sym w)
              (subst (λ p. GroupTakes S Q E (group_of groups u) (group_of groups edge.exporter) t.0 p) is t.1));
        },
        of_edge t.1.edge t.1.edge_in t.1.importer t.1.over,
        t.1.keyed,
      )

  make_at : (E : List (Option Route)) → IsGood Q S (λ g u. IsIn S groups u g) E L → (u : ℕ) (s : Route) → u < count S → IsFirstMember groups u →
      label L u ≡ Some s → label E (group_of groups u) ≡ None → IsFilled (λ g u. IsIn S groups u g) E L (size_of s) → Made E (group_of groups u) s
  make_at E state u s h first e empty before = elim (cases_label (initial S u)) [
    | inr full ↦ make_started E u s full.0 h e full.1 (st.held u s h e)
    | inl none ↦ make_taken E state u s h first e none empty before (st.held u s h e)
  ]

  pub make : (E : List (Option Route)) → IsGood Q S (λ g u. IsIn S groups u g) E L → (g u : ℕ) (s : Route) → IsIn S groups u g → label L u ≡ Some s →
      label E g ≡ None → IsFilled (λ g u. IsIn S groups u g) E L (size_of s) → Made E g s
  make E state g u s x e empty before =
      let l = first_member groups u in
      let b = l.below in
      let hu = x.inside in
      let h : l.router < count S = omega (arith, b, hu) in
      let k = equal_held S good groups adm L st u l.router s (record { left = hu; right = h; same = sym l.of_group }) e in
      let of : group_of groups l.router ≡ g = l.of_group ∙ x.of_group in
      let size : size_of k.route ≡ size_of s = ap (λ (y : Key). y.size) k.keyed in
      let t = make_at E state l.router k.route h (record { first = λ v less same. l.first v less (same ∙ l.of_group) }) k.labelled (ap (label E) of ∙ empty)
      (subst (IsFilled (λ g u. IsIn S groups u g) E L) (sym size) before) in
      (t.0, subst (λ n. Picked E n t.0) of t.1, subst (λ n. IsCandidate Q E n t.0) of t.2, t.3 ∙ k.keyed)

  choice : IsChoice Q S (λ g u. IsIn S groups u g) (converse S Q (IsIn S groups) (quotient_matching S good groups adm Q goodq q)) goodq good L st even Picked
  choice = record { make = make; keep = kept }

  pub fold_exists : (M : List (Option Route)) × IsFold S Q groups L M
  fold_exists =
      let f = chosen_labels Q S (λ g u. IsIn S groups u g) (converse S Q (IsIn S groups) (quotient_matching S good groups adm Q goodq q)) goodq good L st even
      Picked choice in (
        f.labels,
        record {
          fitting = f.good.supported.fitting;
          empty = λ u h e. elim (cases_label (label f.labels (group_of groups u))) [
            | inl none ↦ none
            | inr full ↦ (let k = f.good.tied.held (group_of groups u) u full.0 (record { inside = h; of_group = refl }) full.1 in let lk = k.labelled in
                absurd (cc))
          ];
          started = λ u i h init. elim (cases_label (label L u)) [
            | inl none ↦ absurd (st.none u i h none (of_init init))
            | inr full ↦
                let there = f.full (group_of groups u) u full.0 (record { inside = h; of_group = refl }) full.1 in
                there.1 ∙ ap Some ((f.picked (group_of groups u) there.0 there.1).started u i h refl init)
          ];
          taken = λ u source r h first e none on.
              (let there = f.full (group_of groups u) u r (record { inside = h; of_group = refl }) e in
              (there.0, there.1, (f.picked (group_of groups u) there.0 there.1).taken u source r h refl first e none on));
        },
      )
