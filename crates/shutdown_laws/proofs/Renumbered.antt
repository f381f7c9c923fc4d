-- A problem whose links have other numbers, in the same order.
use Rattle.std.proofs.Common.{◌≡◌, ◌≢◌, ◌⊎◌, ℕ, suc, ◌<◌, ◌^◌, List, [], ◌∷◌, length, map, None, refl, sym, ◌∙◌, ap, subst, inl, inr, arith}
use Rattle.std.specs.Prelude.{Contains, slice_index_or}
use Rattle.std.specs.List.{AllByRecursion}
use Rattle.std.proofs.lemmas.Bool.{cases_lt, cases_eq}
use Rattle.std.proofs.lemmas.List.Elements.{All-from_recursion, recursion_from_All}
use Rattle.base_kit.specs.declared.act_graph.Edge.{Edge}
use Rattle.base_kit.proofs.Elements.{In, in_contains, contains_in, in_map, map_in}
use Rattle.srp_core.specs.declared.route.Act.TheVariants.{Cost}
use Rattle.srp_core.specs.Acts.{import_by}
use Rattle.srp_core.specs.Problem.{Problem, count, number, initial, Accepts, IsLone, Precedes, AreOrdered, IsProblem}
use Rattle.shutdown_laws.specs.Shutdown.{with_link, renumbered}

module _ (num : ℕ → ℕ) (O : Problem) (rules : IsProblem O) (ascends : (e f : Edge) → Contains O.edges e → Contains O.edges f → e.link < f.link →
    num e.link < num f.link) where
  record Was (e' : Edge) : Type 0 where
    edge : Edge
    inside : Contains O.edges edge
    same : with_link num edge ≡ e'

  was : (e' : Edge) → Contains (map (with_link num) O.edges) e' → Was e'
  was e' h = (let m = map_in (with_link num) O.edges e' (in_contains (map (with_link num) O.edges) e' h) in
      record { edge = m.0; inside = contains_in O.edges m.0 m.1; same = m.2 })

  pub stays : (e : Edge) → Contains O.edges e → Contains (map (with_link num) O.edges) (with_link num e)
  stays e h = contains_in (map (with_link num) O.edges) (with_link num e) (in_map (with_link num) O.edges e (in_contains O.edges e h))

  precedes : (e f : Edge) → Contains O.edges e → Contains O.edges f → Precedes e f → Precedes (with_link num e) (with_link num f)
  precedes e f h h' (inl less) = inl less
  precedes e f h h' (inr same) = inr (same.0, by same.1)
    where
      by : (e.exporter < f.exporter) ⊎ ((e.exporter ≡ f.exporter) × (e.link < f.link)) →
          (e.exporter < f.exporter) ⊎ ((e.exporter ≡ f.exporter) × (num e.link < num f.link))
      by (inl less) = inl less
      by (inr equal) = inr (equal.0, ascends e f h h' equal.1)

  all_after : (e : Edge) → Contains O.edges e → (es : List Edge) → ((f : Edge) → In es f → Contains O.edges f) → AllByRecursion (Precedes e) es →
      AllByRecursion (Precedes (with_link num e)) (map (with_link num) es)
  all_after e h [] inside all = tt
  all_after e h (f ∷ es) inside all = (precedes e f h (inside f (inl refl)) all.0, all_after e h es (λ g at. inside g (inr at)) all.1)

  ordered : (es : List Edge) → ((f : Edge) → In es f → Contains O.edges f) → AreOrdered es → AreOrdered (map (with_link num) es)
  ordered [] inside o = tt
  ordered (e ∷ es) inside o = (
    All-from_recursion (Precedes (with_link num e)) (map (with_link num) es)
        (all_after e (inside e (inl refl)) es (λ f at. inside f (inr at)) (recursion_from_All (Precedes e) es o.0)),
    ordered es (λ f at. inside f (inr at)) o.1,
  )

  one_link : (e f : Edge) → Contains O.edges e → Contains O.edges f → num e.link ≡ num f.link → e.link ≡ f.link
  one_link e f h h' same = elim (cases_eq e.link f.link) [
    | inl equal ↦ equal
    | inr differ ↦ elim (cases_lt e.link f.link) [
      | inl less ↦ (let up = ascends e f h h' less in absurd (omega arith))
      | inr more ↦ (let up = ascends f e h' h (omega arith) in absurd (omega arith))
    ]
  ]

  length_kept : (es : List Edge) → length (map (with_link num) es) ≡ length es
  length_kept [] = refl
  length_kept (e ∷ es) = ap suc (length_kept es)

  accepts_new : (u p : ℕ) → Accepts O u p → Accepts (renumbered num O) u p
  accepts_new u p a = record {
    edge = with_link num a.edge;
    edge_in = stays a.edge a.edge_in;
    importer = a.importer;
    comms = a.comms;
    is_set = a.is_set;
    imported = a.imported;
    accepted = a.accepted;
    preferred = a.preferred;
  }

  accepts_old : (u p : ℕ) → Accepts (renumbered num O) u p → Accepts O u p
  accepts_old u p a =
      let w = was a.edge a.edge_in in
      let act : w.edge.act ≡ a.edge.act = ap (λ (e : Edge). e.act) w.same in
      record {
        edge = w.edge;
        edge_in = w.inside;
        importer = ap (λ (e : Edge). e.importer) w.same ∙ a.importer;
        comms = a.comms;
        is_set = a.is_set;
        imported = a.imported;
        accepted = ap (λ k. import_by (slice_index_or O.acts k (Cost 0)) a.comms) act ∙ a.accepted;
        preferred = a.preferred;
      }

  lone_new : (u : ℕ) → IsLone O u → IsLone (renumbered num O) u
  lone_new u l = record {
    unoriginated = l.unoriginated;
    first = l.first;
    second = l.second;
    first_accepted = accepts_new u l.first l.first_accepted;
    second_accepted = accepts_new u l.second l.second_accepted;
    differ = l.differ;
  }

  lone_old : (u : ℕ) → IsLone (renumbered num O) u → IsLone O u
  lone_old u l = record {
    unoriginated = l.unoriginated;
    first = l.first;
    second = l.second;
    first_accepted = accepts_old u l.first l.first_accepted;
    second_accepted = accepts_old u l.second l.second_accepted;
    differ = l.differ;
  }

  few : length (map (with_link num) O.edges) < 2 ^ 32
  few = let same = length_kept O.edges in let bound = rules.tables.few_edges in omega arith

  ends_of : (e' : Edge) (w : Was e') → (w.edge.importer ≡ e'.importer) × (w.edge.exporter ≡ e'.exporter) × (w.edge.act ≡ e'.act) × (num w.edge.link ≡ e'.link)
  ends_of e' w = (ap (λ (e : Edge). e.importer) w.same, ap (λ (e : Edge). e.exporter) w.same, ap (λ (e : Edge). e.act) w.same, ap (λ (e : Edge). e.link) w.same)

  pub renumbered_rules : IsProblem (renumbered num O)
  renumbered_rules = record {
    tables = record {
      few_routers = rules.tables.few_routers;
      few_edges = few;
      names = rules.tables.names;
      init = rules.tables.init;
      lone = rules.tables.lone;
    };
    edges = record {
      inside = λ e' h. (let w = was e' h in let i = rules.edges.inside w.edge w.inside in let ends = ends_of e' w in record {
        importer_in = subst (λ k. k < count O) ends.0 i.importer_in;
        exporter_in = subst (λ k. k < count O) ends.1 i.exporter_in;
        differ = λ same. i.differ (ends.0 ∙ same ∙ sym ends.1);
        act_in = subst (λ k. k < length O.acts) ends.2 i.act_in;
      });
      ordered = ordered O.edges (λ f at. contains_in O.edges f at) rules.edges.ordered;
      one_of_link = λ e' f' h h' importers links. (
          let w = was e' h in let x = was f' h' in
          let a = ends_of e' w in let b = ends_of f' x in
          let link = one_link w.edge x.edge w.inside x.inside (a.3 ∙ links ∙ sym b.3) in
          let same = rules.edges.one_of_link w.edge x.edge w.inside x.inside (a.0 ∙ importers ∙ sym b.0) link in
          sym w.same ∙ ap (with_link num) same ∙ x.same);
    };
    acts = record { fit = rules.acts.fit; keep = rules.acts.keep; differ = rules.acts.differ };
    starts = record {
      routes = rules.starts.routes;
      paths = rules.starts.paths;
      bare = rules.starts.bare;
      unoriginated = λ bgp e' h. (let w = was e' h in subst (λ k. initial O k ≡ None) (ends_of e' w).0 (rules.starts.unoriginated bgp w.edge w.inside));
    };
    numbers = λ bgp. (let n = rules.numbers bgp in record {
      originators = n.originators;
      importers = λ e' h. (let w = was e' h in subst (λ k. number O k ≢ 0) (ends_of e' w).0 (n.importers w.edge w.inside));
      exporters = λ e' h. (let w = was e' h in subst (λ k. number O k ≢ 0) (ends_of e' w).1 (n.exporters w.edge w.inside));
      distinct = n.distinct;
    });
    marks = record { only = λ u lt e. lone_new u (rules.marks.only u lt e); all = λ u lt l. rules.marks.all u lt (lone_old u l) };
  }
