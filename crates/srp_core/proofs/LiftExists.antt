-- Labels that lifting asks for exist: the routers are filled by the sizes of their groups' labels.
use Rattle.std.proofs.Common.{◌≡◌, ◌≢◌, ◌⊎◌, ℕ, zero, suc, ◌<◌, ◌≤◌, List, [], ◌∷◌, Option, Some, None, refl, sym, ap, ◌∙◌, subst, inl, inr, arith}
use Rattle.std.specs.Prelude.{Contains}
use Rattle.std.specs.declared.cmp.Ordering.{Ordering}
use Rattle.std.specs.declared.cmp.Ordering.TheVariants.{Less, Equal, Greater}
use Rattle.std.proofs.lemmas.Bool.{cases_lt, cases_eq}
use Rattle.std.proofs.lemmas.Cmp.{tied_itself}
use Rattle.base_kit.specs.declared.act_graph.Edge.{Edge}
use Rattle.base_kit.specs.declared.protocol.Protocol.TheVariants.{Bgp as OverBgp}
use Rattle.srp_core.specs.declared.route.Route.{Route}
use Rattle.srp_core.specs.Routes.{path_of, size_of, Key, compare_keys}
use Rattle.srp_core.specs.Problem.{Problem, count, initial, key_of, IsProblem}
use Rattle.srp_core.specs.Stability.{label, IsCandidateOver, IsCandidate, of_init, of_edge, IsStable}
use Rattle.srp_core.specs.Candidates.{over}
use Rattle.srp_core.specs.Quotient.{group_of, IsAdmissible, IsQuotient}
use Rattle.srp_core.specs.Lifts.{TakesFrom, IsFirstOn, IsLift}
use Rattle.srp_core.proofs.KeyOrder.{key_total, keys_equal, irreflexive}
use Rattle.srp_core.proofs.Offers.{cases_label, grows}
use Rattle.srp_core.proofs.Matching.{keys_agree}
use Rattle.srp_core.proofs.Filling.{IsEven, IsGood, Extends, IsFilled, IsChoice, chosen_labels}
use Rattle.srp_core.proofs.CandidateLists.{over_candidate, candidate_over}
use Rattle.srp_core.proofs.GroupMatching.{IsIn, quotient_matching}
use Rattle.srp_core.proofs.LiftedLabels.{first_on}
use Rattle.srp_core.proofs.Sources.{first_is, lift_next}

cases_key : (a b : Key) → (a ≡ b) ⊎ (a ≢ b)
cases_key a b = decide (compare_keys a b) refl
  where
    decide : (o : Ordering) → compare_keys a b ≡ o → (a ≡ b) ⊎ (a ≢ b)
    decide Equal e = inl (keys_equal a b e)
    decide Less e = inr (λ same. irreflexive a b same e)
    decide Greater e = inr (λ same. (let tie : compare_keys a a ≡ Equal = tied_itself key_total a in let tie' : compare_keys a b ≡ Equal =
        subst (λ k. compare_keys a k ≡ Equal) same tie in let no : Greater ≡ Equal = sym e ∙ tie' in absurd (cc)))

-- the edge gives the router a route of that key from the group
record Fits (S : Problem) (groups : List ℕ) (E : List (Option Route)) (u source : ℕ) (k : Key) (edge : Edge) : Type 0 where
  importer : edge.importer ≡ u
  exporter : group_of groups edge.exporter ≡ source
  route : Route
  over : IsCandidateOver S E edge route
  keyed : key_of S route ≡ k

module _ (S : Problem) (groups : List ℕ) (E : List (Option Route)) (u source : ℕ) (k : Key) where
  fits_over : (e : Edge) → e.importer ≡ u → group_of groups e.exporter ≡ source → Fits S groups E u source k e ⊎ ¬ Fits S groups E u source k e
  fits_over e imp exp = elim (cases_label (over S E e)) [
    | inl none ↦ inr (λ f. (let there = candidate_over S E e f.route f.over in absurd (cc)))
    | inr full ↦ elim (cases_key (key_of S full.0) k) [
      | inl same ↦ inl (record { importer = imp; exporter = exp; route = full.0; over = over_candidate S E e full.0 full.1; keyed = same })
      | inr differ ↦ inr (λ f.
          (let there = candidate_over S E e f.route f.over in
          let there' = full.1 in
          let one : f.route ≡ full.0 = cc in
          differ (ap (key_of S) (sym one) ∙ f.keyed)))
    ]
  ]

  fits : (e : Edge) → Fits S groups E u source k e ⊎ ¬ Fits S groups E u source k e
  fits e = elim (cases_eq e.importer u) [
    | inr differ ↦ inr (λ f. differ f.importer)
    | inl imp ↦ elim (cases_eq (group_of groups e.exporter) source) [
      | inr differ ↦ inr (λ f. differ f.exporter)
      | inl exp ↦ fits_over e imp exp
    ]
  ]

  record Least (edges : List Edge) : Type 0 where
    edge : Edge
    edge_in : Contains edges edge
    fit : Fits S groups E u source k edge
    least : (other : Edge) → Contains edges other → Fits S groups E u source k other → edge.exporter ≤ other.exporter

  later : (e x : Edge) (edges : List Edge) → Contains edges x → Contains (e ∷ edges) x
  later e x edges (n, l, h) = (suc n, omega arith, h)

  least_more : (e : Edge) (edges : List Edge) → Fits S groups E u source k e → Least edges ⊎ ((x : Edge) → Contains edges x → ¬ Fits S groups E u source k x) →
      Least (e ∷ edges)
  least_more e edges f (inr none) = record {
    edge = e;
    edge_in = (0, omega arith, refl);
    fit = f;
    least = λ other i g. by other i g;
  }
    where
      by : (other : Edge) → Contains (e ∷ edges) other → Fits S groups E u source k other → e.exporter ≤ other.exporter
      by other (zero, l, h) g = let same = ap (λ (x : Edge). x.exporter) h in omega arith
      by other (suc n, l, h) g = absurd (none other (n, omega arith, h) g)
  least_more e edges f (inl best) = elim (cases_lt e.exporter best.edge.exporter) [
    | inl less ↦ record { edge = e; edge_in = (0, omega arith, refl); fit = f; least = by e (omega arith) }
    | inr more ↦ record { edge = best.edge; edge_in = later e best.edge edges best.edge_in; fit = best.fit; least = by best.edge (omega arith) }
  ]
    where
      by : (x : Edge) → (x.exporter ≤ e.exporter) × (x.exporter ≤ best.edge.exporter) → (other : Edge) → Contains (e ∷ edges) other →
          Fits S groups E u source k other → x.exporter ≤ other.exporter
      by x le other (zero, l, h) g = let same = ap (λ (y : Edge). y.exporter) h in let a = le.0 in omega arith
      by x le other (suc n, l, h) g = let a = le.1 in let b = best.least other (n, omega arith, h) g in omega arith

  least_of : (edges : List Edge) → Least edges ⊎ ((x : Edge) → Contains edges x → ¬ Fits S groups E u source k x)
  least_of [] = inr (λ x i g. (let l = i.1 in omega arith))
  least_of (e ∷ edges) = by (fits e) (least_of edges)
    where
      skip : (x : Edge) → ¬ Fits S groups E u source k e → ((y : Edge) → Contains edges y → ¬ Fits S groups E u source k y) → Contains (e ∷ edges) x →
          ¬ Fits S groups E u source k x
      skip x unfit none (zero, l, h) g = unfit (subst (Fits S groups E u source k) (sym h) g)
      skip x unfit none (suc n, l, h) g = none x (n, omega arith, h) g

      by_rest : ¬ Fits S groups E u source k e → Least edges ⊎ ((x : Edge) → Contains edges x → ¬ Fits S groups E u source k x) →
          Least (e ∷ edges) ⊎ ((x : Edge) → Contains (e ∷ edges) x → ¬ Fits S groups E u source k x)
      by_rest unfit (inr none) = inr (λ x i. skip x unfit none i)
      by_rest unfit (inl best) = inl (record {
        edge = best.edge;
        edge_in = later e best.edge edges best.edge_in;
        fit = best.fit;
        least =
            λ other i g. behind other i g;
      })
        where
          behind : (other : Edge) → Contains (e ∷ edges) other → Fits S groups E u source k other → best.edge.exporter ≤ other.exporter
          behind other (zero, l, h) g = absurd (unfit (subst (Fits S groups E u source k) (sym h) g))
          behind other (suc n, l, h) g = best.least other (n, omega arith, h) g

      by : Fits S groups E u source k e ⊎ ¬ Fits S groups E u source k e → Least edges ⊎ ((x : Edge) → Contains edges x → ¬ Fits S groups E u source k x) →
          Least (e ∷ edges) ⊎ ((x : Edge) → Contains (e ∷ edges) x → ¬ Fits S groups E u source k x)
      by (inl f) rest = inl (least_more e edges f rest)
      by (inr unfit) rest = by_rest unfit rest

module _ (S : Problem) (good : IsProblem S) (groups : List ℕ) (adm : IsAdmissible S groups) (Q : Problem) (goodq : IsProblem Q) (q : IsQuotient S groups Q)
    (bgp : Q.protocol ≡ OverBgp) (M : List (Option Route)) (st : IsStable Q M) where
  -- all routers of the group have labels
  pub record AllFilled (E : List (Option Route)) (source : ℕ) : Type 0 where
    pub filled : (w : ℕ) → w < count S → group_of groups w ≡ source → (r : Route) × (label E w ≡ Some r)

  pub record PicksFrom (E : List (Option Route)) (u source : ℕ) (r m : Route) : Type 0 where
    pub takes : TakesFrom S Q groups E u source r m
    pub source_filled : AllFilled E source

  -- the router has its initial route, or takes its route as lifting asks for
  pub record Picked (E : List (Option Route)) (u : ℕ) (r : Route) : Type 0 where
    pub started : (i : Route) → u < count S → initial S u ≡ Some i → r ≡ i
    pub taken : (source : ℕ) (m : Route) → u < count S → label M (group_of groups u) ≡ Some m → initial S u ≡ None → IsFirstOn Q (path_of m) source →
        PicksFrom E u source r m

  back_over : (E E' : List (Option Route)) (source : ℕ) (e : Edge) (c : Route) → Extends E E' → AllFilled E source → e.exporter < count S →
      group_of groups e.exporter ≡ source → IsCandidateOver S E' e c → IsCandidateOver S E e c
  back_over E E' source e c ext f h x o =
      let r = f.filled e.exporter h x in
      let there = ext.kept e.exporter r.0 r.1 in
      let lab = o.labelled in
      let same : r.0 ≡ o.from = cc in
      record { from = o.from; labelled = r.1 ∙ ap Some same; stepped = o.stepped; passes = o.passes }

  takes_kept : (E E' : List (Option Route)) (u source : ℕ) (r m : Route) → Extends E E' → PicksFrom E u source r m → PicksFrom E' u source r m
  takes_kept E E' u source r m ext p =
      let t = p.takes in
      record {
        takes = record {
          edge = t.edge;
          edge_in = t.edge_in;
          importer = t.importer;
          exporter = t.exporter;
          over = record {
            from = t.over.from;
            labelled = ext.kept t.edge.exporter t.over.from t.over.labelled;
            stepped = t.over.stepped;
            passes =
                t.over.passes;
          };
          keyed = t.keyed;
          least = λ other c i imp x o k. t.least other c i imp x (back_over E E' source other c ext p.source_filled (good.edges.inside other i).exporter_in x o)
              k;
        };
        source_filled = record { filled = λ w h x. (let f = p.source_filled.filled w h x in (f.0, ext.kept w f.0 f.1)) };
      }

  pub kept : (E E' : List (Option Route)) (u : ℕ) (r : Route) → Extends E E' → Picked E u r → Picked E' u r
  kept E E' u r ext p = record { started = p.started; taken = λ source m h e none on. takes_kept E E' u source r m ext (p.taken source m h e none on) }

  pub even : IsEven Q (IsIn S groups) M
  even = record {
    held = λ u g g' r x x' e.
        (let same : g ≡ g' = sym x.of_group ∙ x'.of_group in record { route = r; labelled = subst (λ h. label M h ≡ Some r) same e; keyed = refl });
  }

  abbrev pub Made : (E : List (Option Route)) (u : ℕ) (m : Route) → Type 0
  Made E u m = (r : Route) × Picked E u r × IsCandidate S E u r × (key_of S r ≡ key_of Q m)

  take_least : (E : List (Option Route)) (u source : ℕ) (m : Route) → u < count S → label M (group_of groups u) ≡ Some m → initial S u ≡ None →
      AllFilled E source → IsFirstOn Q (path_of m) source → ((other : ℕ) → IsFirstOn Q (path_of m) other → other ≡ source) →
      Least S groups E u source (key_of Q m) S.edges → Made E u m
  take_least E u source m h e none filled on only l =
      let takes : TakesFrom S Q groups E u source l.fit.route m = record {
        edge = l.edge;
        edge_in = l.edge_in;
        importer = l.fit.importer;
        exporter = l.fit.exporter;
        over = l.fit.over;
        keyed = l.fit.keyed;
        least = λ other c i imp x o k. l.least other i (record { importer = imp; exporter = x; route = c; over = o; keyed = k });
      } in
      let picks : PicksFrom E u source l.fit.route m = record { takes = takes; source_filled = filled } in (
        l.fit.route,
        record {
          started = λ i h' init. absurd (cc);
          taken = λ other m' h' e' none' on'.
              (let same : m ≡ m' = cc in
              let is : other ≡ source = only other (subst (λ p. IsFirstOn Q (path_of p) other) (sym same) on') in
              subst (λ n. PicksFrom E u n l.fit.route m') (sym is) (subst (PicksFrom E u source l.fit.route) same picks));
        },
        of_edge l.edge l.edge_in l.fit.importer l.fit.over,
        l.fit.keyed,
      )

  make_from : (E : List (Option Route)) → IsGood S Q (IsIn S groups) E M → (u : ℕ) (m : Route) → u < count S → label M (group_of groups u) ≡ Some m →
      label E u ≡ None → IsFilled (IsIn S groups) E M (size_of m) → IsCandidate Q M (group_of groups u) m → Made E u m
  make_from E state u m h e empty before (of_init f) =
      let init : initial S u ≡ Some m = sym (q.origins u h) ∙ f in (
        m,
        record { started = λ i h' init'. (let k : Some m ≡ Some i = sym init ∙ init' in cc); taken = λ source m' h' e' none on. absurd (cc) },
        of_init init,
        keys_agree S Q (IsIn S groups) (quotient_matching S good groups adm Q goodq q) m,
      )
  make_from E state u m h e empty before (of_edge edge i imp over) =
      let none : initial S u ≡ None = sym (q.origins u h) ∙ ap (initial Q) (sym imp) ∙ goodq.starts.unoriginated bgp edge i in
      let on = first_on Q goodq bgp M m edge i over in
      let source = edge.exporter in
      let t = lift_next S good groups adm Q goodq q (q.protocol ∙ bgp) M st E state u source m h e none empty before on in
      let less = grows Q goodq edge over.from m i over.stepped in
      let filled : AllFilled E edge.exporter =
      record { filled = λ w hw x. before.filled w edge.exporter over.from (record { inside = hw; of_group = x }) over.labelled less } in
      let fit : Fits S groups E u edge.exporter (key_of Q m) t.0 = record { importer = t.2; exporter = t.3; route = t.4.0; over = t.4.1; keyed = t.4.2 } in
      elim (least_of S groups E u edge.exporter (key_of Q m) S.edges) [
        | inl l ↦ take_least E u edge.exporter m h e none filled on (λ other on'. first_is Q goodq bgp M m edge other i over on') l
        | inr unfit ↦ absurd (unfit t.0 t.1 fit)
      ]

  pub make : (E : List (Option Route)) → IsGood S Q (IsIn S groups) E M → (u g : ℕ) (m : Route) → IsIn S groups u g → label M g ≡ Some m → label E u ≡ None →
      IsFilled (IsIn S groups) E M (size_of m) → Made E u m
  make E state u g m x e empty before =
      let there : label M (group_of groups u) ≡ Some m = ap (label M) x.of_group ∙ e in
      make_from E state u m x.inside there empty before (st.held (group_of groups u) m (q.inside u x.inside) there)

  choice : IsChoice S Q (IsIn S groups) (quotient_matching S good groups adm Q goodq q) good goodq M st even Picked
  choice = record { make = make; keep = kept }

  pub lift_exists : (L : List (Option Route)) × IsLift S Q groups M L
  lift_exists =
      let f = chosen_labels S Q (IsIn S groups) (quotient_matching S good groups adm Q goodq q) good goodq M st even Picked choice in (
        f.labels,
        record {
          fitting = f.good.supported.fitting;
          empty = λ u h e. elim (cases_label (label f.labels u)) [
            | inl none ↦ none
            | inr full ↦ (let k = f.good.tied.held u (group_of groups u) full.0 (record { inside = h; of_group = refl }) full.1 in let lk = k.labelled in
                absurd (cc))
          ];
          started = λ u r m h e init.
              (let there = f.full u (group_of groups u) m (record { inside = h; of_group = refl }) e in
              there.1 ∙ ap Some ((f.picked u there.0 there.1).started r h init));
          taken = λ u source m h e none on.
              (let there = f.full u (group_of groups u) m (record { inside = h; of_group = refl }) e in
              (there.0, there.1, ((f.picked u there.0 there.1).taken source m h e none on).takes));
        },
      )
