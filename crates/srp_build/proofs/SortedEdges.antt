-- Edges that stand for the sorted directions of a network keep the rules of edges.
use Rattle.std.proofs.Common.{◌≡◌, ◌≢◌, ◌<◌, List, [], ◌∷◌, inl, inr, length, sym, ◌∙◌, ap, subst, arith}
use Rattle.std.specs.Prelude.{Contains}
use Rattle.base_kit.specs.declared.act_graph.Edge.{Edge}
use Rattle.std.proofs.lemmas.List.Elements.{All-contains}
use Rattle.base_kit.proofs.Elements.{In, in_contains, contains_in}
use Rattle.cfg_ast.specs.declared.network.Network.{Network}
use Rattle.cfg_ast.specs.meaning.Topology.{links_of}
use Rattle.srp_core.specs.Problem.{Precedes, AreOrdered}
use Rattle.srp_build.specs.declared.hops.Hop.{Hop}
use Rattle.srp_build.specs.HopEdges.{edge_with, AreEdgesOf}
use Rattle.srp_build.proofs.HopEdges.{edge_hop, edges_in_order}
use Rattle.srp_build.proofs.LinkPlaces.{IsBetween, is_between, link_between_routers, sorted_of, sorted_hop, one_hop}
use Rattle.srp_build.proofs.SortedHops.{IsHopOf, sorted_stand}

never_before : (e f : Edge) → e.importer ≡ f.importer → e.exporter ≡ f.exporter → e.link ≡ f.link → Precedes e f → ⊥
never_before e f a b c (inl less) = absurd (omega arith)
never_before e f a b c (inr (same, inl less)) = absurd (omega arith)
never_before e f a b c (inr (same, inr (other, less))) = absurd (omega arith)

-- of ordered edges no two have the same ends and link
one_of_ends : (edges : List Edge) → AreOrdered edges → (e f : Edge) → In edges e → In edges f → e.importer ≡ f.importer → e.exporter ≡ f.exporter →
    e.link ≡ f.link → e ≡ f
one_of_ends [] ordered e f at at' a b c = absurd at
one_of_ends (x ∷ xs) ordered e f (inl same) (inl same') a b c = sym same ∙ same'
one_of_ends (x ∷ xs) ordered e f (inl same) (inr at) a b c =
    absurd (never_before e f a b c (subst (λ (y : Edge). Precedes y f) same (All-contains (Precedes x) xs f ordered.0 (contains_in xs f at))))
one_of_ends (x ∷ xs) ordered e f (inr at) (inl same) a b c =
    absurd (never_before f e (sym a) (sym b) (sym c) (subst (λ (y : Edge). Precedes y e) same (All-contains (Precedes x) xs e ordered.0 (contains_in xs e at))))
one_of_ends (x ∷ xs) ordered e f (inr at) (inr at') a b c = one_of_ends xs ordered.1 e f at at' a b c

module _ (n : Network) (HasEdge : Hop → Edge → Type 0) (IsLeft : Hop → Type 0) (is : (hop : Hop) (edge : Edge) → HasEdge hop edge →
    edge ≡ edge_with edge.act hop) (edges : List Edge) (all : AreEdgesOf HasEdge IsLeft (sorted_of n) edges) where
  -- the direction of an edge
  pub record IsFrom (edge : Edge) : Type 0 where
    pub hop : Hop
    pub hop_in : In (sorted_of n) hop
    pub has : HasEdge hop edge
    pub of : IsHopOf (links_of n) hop
    pub same : edge ≡ edge_with edge.act hop
    pub ends : IsBetween n hop

  pub from : (edge : Edge) → Contains edges edge → IsFrom edge
  from edge inside =
      let r = edge_hop HasEdge IsLeft (sorted_of n) edges all edge (in_contains edges edge inside) in
      let of = sorted_hop n r.0 r.1 in
      record { hop = r.0; hop_in = r.1; has = r.2; of = of; same = is r.0 edge r.2; ends = is_between n r.0 of }

  pub importer_in : (edge : Edge) → Contains edges edge → edge.importer < length n.routers
  importer_in edge inside = let f = from edge inside in subst (λ (e : Edge). e.importer < length n.routers) (sym f.same) f.ends.importer_in

  pub exporter_in : (edge : Edge) → Contains edges edge → edge.exporter < length n.routers
  exporter_in edge inside = let f = from edge inside in subst (λ (e : Edge). e.exporter < length n.routers) (sym f.same) f.ends.exporter_in

  pub ends_differ : (edge : Edge) → Contains edges edge → edge.importer ≢ edge.exporter
  ends_differ edge inside e = let f = from edge inside in f.ends.differ (sym (ap (λ (x : Edge). x.importer) f.same) ∙ e ∙ ap (λ (x : Edge). x.exporter) f.same)

  pub ordered : AreOrdered edges
  ordered = edges_in_order HasEdge IsLeft is (sorted_of n) edges all
      (sorted_stand (links_of n) (length n.routers) (λ link at. (link_between_routers n link at).apart))

  pub one_of_link : (edge other : Edge) → Contains edges edge → Contains edges other → edge.importer ≡ other.importer → edge.link ≡ other.link → edge ≡ other
  one_of_link edge other inside also importer link =
      let f = from edge inside in
      let g = from other also in
      let first : f.hop.importer ≡ g.hop.importer = sym (ap (λ (e : Edge). e.importer) f.same) ∙ importer ∙ ap (λ (e : Edge). e.importer) g.same in
      let second : f.hop.link ≡ g.hop.link = sym (ap (λ (e : Edge). e.link) f.same) ∙ link ∙ ap (λ (e : Edge). e.link) g.same in
      let one : f.hop ≡ g.hop = one_hop n f.hop g.hop f.of g.of first second in
      let exporter : edge.exporter ≡ other.exporter = ap (λ (e : Edge). e.exporter) f.same ∙ ap (λ (h : Hop). h.exporter) one
      ∙ sym (ap (λ (e : Edge). e.exporter) g.same) in
      one_of_ends edges ordered edge other (in_contains edges edge inside) (in_contains edges other also) importer exporter link
