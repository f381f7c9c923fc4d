-- The admissible partitions of a problem are those of its graph.
use Rattle.std.proofs.Common.{◌≡◌, ℕ, ◌<◌, List, All, sym, ap, ◌∙◌, subst, inl, inr, arith}
use Rattle.std.specs.Prelude.{slice_index_or, Contains, ◌↔◌}
use Rattle.std.proofs.lemmas.Bool.{cases_Bool}
use Rattle.std.proofs.lemmas.List.Elements.{All-contains, All-contains_itself}
use Rattle.base_kit.specs.declared.act_graph.Edge.{Edge}
use Rattle.base_kit.specs.declared.act_graph.ActGraph.{ActGraph}
use Rattle.base_kit.specs.Partition as partition
use Rattle.base_kit.specs.Partition.{color, HasTwinIfOutgoing, IsMirroredAt, Refines}
use Rattle.srp_core.specs.declared.route.Act.TheVariants.{Cost}
use Rattle.srp_core.specs.Acts.{ActsAlike}
use Rattle.srp_core.specs.Problem.{Problem, count, initial, is_lone, act_of, IsProblem}
use Rattle.srp_core.specs.Quotient.{IsAdmissible, IsCoarsest}
use Rattle.srp_core.specs.Starts.{IsGraphOf}
use Rattle.srp_core.proofs.Steps.{alike_self}

module _ (P : Problem) (good : IsProblem P) (graph : ActGraph) (is : IsGraphOf P graph) where
  in_graph : (u : ℕ) → u < count P → u < graph.count
  in_graph u h = let e = is.routers in omega arith

  same_start : (u v : ℕ) → u < count P → v < count P → color graph u ≡ color graph v → initial P u ≡ initial P v
  same_start u v hu hv e = elim (cases_Bool (is_lone P u)) [
    | inl l ↦ ap (initial P) (is.alone u v hu hv l e)
    | inr l ↦ elim (cases_Bool (is_lone P v)) [
      | inl l' ↦ ap (initial P) (sym (is.alone v u hv hu l' (sym e)))
      | inr l' ↦ is.apart u v hu hv l l' e
    ]
  ]

  pub from_graph : (groups : List ℕ) → partition.IsAdmissibleOn graph groups → IsAdmissible P groups
  unfolding IsMirroredAt
  from_graph groups a = record {
    total = a.total ∙ is.routers;
    origins = λ u v hu hv same. same_start u v hu hv (a.colors u v (in_graph u hu) (in_graph v hv) same);
    alone = λ u v hu hv same l. is.alone u v hu hv l (a.colors u v (in_graph u hu) (in_graph v hv) same);
    twins = λ u v edge hu hv same i imp out.
        (let mirrored : HasTwinIfOutgoing graph.edges groups u v edge =
        All-contains (HasTwinIfOutgoing graph.edges groups u v) graph.edges edge (a.edges u v (in_graph u hu) (in_graph v hv) same)
        (subst (λ l. Contains l edge) (sym is.edges) i) in
        let (k, other, inside, at, (importer, act, into)) = mirrored.twin imp out in
        record {
          other = other;
          other_in = subst (λ l. Contains l other) is.edges (k, inside, at);
          importer = importer;
          exporter = into;
          alike = subst (λ n. ActsAlike (act_of P edge) (slice_index_or P.acts n (Cost 0))) (sym act) (alike_self (act_of P edge));
        });
  }

  pub to_graph : (groups : List ℕ) → IsAdmissible P groups → partition.IsAdmissibleOn graph groups
  unfolding IsMirroredAt
  to_graph groups a = record {
    total = a.total ∙ sym is.routers;
    colors = λ u v hu hv same.
        (let e = is.routers in
        let hu' : u < count P = omega arith in
        let hv' : v < count P = omega arith in
        elim (cases_Bool (is_lone P u)) [
          | inl l ↦ ap (color graph) (a.alone u v hu' hv' same l)
          | inr l ↦ elim (cases_Bool (is_lone P v)) [
            | inl l' ↦ ap (color graph) (sym (a.alone v u hv' hu' (sym same) l'))
            | inr l' ↦ is.alike u v hu' hv' l l' (a.origins u v hu' hv' same)
          ]
        ]);
    edges = λ u v hu hv same k d inside.
        (let e = is.routers in
        let hu' : u < count P = omega arith in
        let hv' : v < count P = omega arith in
        let edge = slice_index_or graph.edges k d in
        let i : Contains P.edges edge = subst (λ l. Contains l edge) is.edges (All-contains_itself graph.edges k d inside) in
        record {
          twin = λ imp out.
              (let t = a.twins u v edge hu' hv' same i imp out in
              let there = subst (λ l. Contains l t.other) (sym is.edges) t.other_in in
              let g = good.edges.inside edge i in
              let g' = good.edges.inside t.other t.other_in in
              let act : t.other.act ≡ edge.act = sym (good.acts.differ edge.act t.other.act g.act_in g'.act_in t.alike) in
              (there.0, t.other, there.1, there.2, (t.importer, act, t.exporter)));
        });
  }

  pub admissible_both : (groups : List ℕ) → IsAdmissible P groups ↔ partition.IsAdmissibleOn graph groups
  admissible_both groups = (to_graph groups, from_graph groups)

  pub coarsest_to : (groups : List ℕ) → IsCoarsest P groups → partition.IsCoarsestOn graph groups
  coarsest_to groups c = record {
    admissible = to_graph groups c.admissible;
    refined = λ others a u v hu hv same. (let e = is.routers in c.refined others (from_graph others a) u v (omega arith) (omega arith) same);
  }

  pub coarsest_from : (groups : List ℕ) → partition.IsCoarsestOn graph groups → IsCoarsest P groups
  coarsest_from groups c = record {
    admissible = from_graph groups c.admissible;
    refined = λ others a u v hu hv same. c.refined others (to_graph others a) u v (in_graph u hu) (in_graph v hv) same;
  }

  pub coarsest_both : (groups : List ℕ) → IsCoarsest P groups ↔ partition.IsCoarsestOn graph groups
  coarsest_both groups = (coarsest_to groups, coarsest_from groups)

-- what the graph keeps of the problem's edges
pub importers_inside : (P : Problem) → IsProblem P → (edges : List Edge) (n : ℕ) → edges ≡ P.edges → n ≡ count P → All (λ e. e.importer < n) edges
importers_inside P good edges n same total k d inside =
    let edge = slice_index_or edges k d in
    let h = (good.edges.inside edge (subst (λ l. Contains l edge) same (All-contains_itself edges k d inside))).importer_in in
    subst (λ m. edge.importer < m) (sym total) h

pub exporters_inside : (P : Problem) → IsProblem P → (edges : List Edge) (n : ℕ) → edges ≡ P.edges → n ≡ count P → All (λ e. e.exporter < n) edges
exporters_inside P good edges n same total k d inside =
    let edge = slice_index_or edges k d in
    let h = (good.edges.inside edge (subst (λ l. Contains l edge) same (All-contains_itself edges k d inside))).exporter_in in
    subst (λ m. edge.exporter < m) (sym total) h
