-- The edges of directions, one by one and in order.
use Rattle.std.proofs.Common.{◌≡◌, ◌≤◌, List, [], ◌∷◌, ◌++◌, length, ◌⊎◌, inl, inr, refl, sym, subst, arith}
use Rattle.base_kit.specs.declared.act_graph.Edge.{Edge}
use Rattle.base_kit.proofs.Elements.{In}
use Rattle.by_key.proofs.KeyedItems.{all_from}
use Rattle.by_key.proofs.OrderedByKey.{IsOrdered}
use Rattle.srp_core.specs.Problem.{Precedes, AreOrdered}
use Rattle.srp_build.specs.declared.hops.Hop.{Hop}
use Rattle.srp_build.specs.HopEdges.{edge_with, AreEdgesOf}
use Rattle.srp_build.proofs.SortedHops.{BeforeHop}

module _ (HasEdge : Hop → Edge → Type 0) (IsLeft : Hop → Type 0) where
  -- the direction of an edge
  pub edge_hop : (hops : List Hop) (edges : List Edge) → AreEdgesOf HasEdge IsLeft hops edges → (edge : Edge) → In edges edge → (hop : Hop) × In hops hop
      × HasEdge hop edge
  edge_hop [] [] all edge at = absurd at
  edge_hop [] (e ∷ es) all edge at = absurd all
  edge_hop (h ∷ hs) [] all edge at = absurd at
  edge_hop (h ∷ hs) (e ∷ es) (inl one) edge (inl same) = (h, inl refl, subst (HasEdge h) same one.0)
  edge_hop (h ∷ hs) (e ∷ es) (inl one) edge (inr at) = let r = edge_hop hs es one.1 edge at in (r.0, inr r.1, r.2)
  edge_hop (h ∷ hs) (e ∷ es) (inr left) edge at = let r = edge_hop hs (e ∷ es) left.1 edge at in (r.0, inr r.1, r.2)

  abbrev pub IsServed : List Edge → Hop → Type 0
  IsServed edges hop = ((edge : Edge) × In edges edge × HasEdge hop edge) ⊎ IsLeft hop

  served_more : (e : Edge) (edges : List Edge) (hop : Hop) → IsServed edges hop → IsServed (e ∷ edges) hop
  served_more e edges hop (inl has) = inl (has.0, inr has.1, has.2)
  served_more e edges hop (inr left) = inr left

  -- the edge of a direction, unless it is left out
  pub hop_edge : (hops : List Hop) (edges : List Edge) → AreEdgesOf HasEdge IsLeft hops edges → (hop : Hop) → In hops hop → IsServed edges hop
  hop_edge [] edges all hop at = absurd at
  hop_edge (h ∷ hs) [] all hop (inl same) = inr (subst IsLeft same all.0)
  hop_edge (h ∷ hs) [] all hop (inr at) = hop_edge hs [] all.1 hop at
  hop_edge (h ∷ hs) (e ∷ es) (inl one) hop (inl same) = inl (e, inl refl, subst (λ (x : Hop). HasEdge x e) same one.0)
  hop_edge (h ∷ hs) (e ∷ es) (inl one) hop (inr at) = served_more e es hop (hop_edge hs es one.1 hop at)
  hop_edge (h ∷ hs) (e ∷ es) (inr left) hop (inl same) = inr (subst IsLeft same left.0)
  hop_edge (h ∷ hs) (e ∷ es) (inr left) hop (inr at) = hop_edge hs (e ∷ es) left.1 hop at

  pub few_edges : (hops : List Hop) (edges : List Edge) → AreEdgesOf HasEdge IsLeft hops edges → length edges ≤ length hops
  few_edges [] [] all = omega arith
  few_edges [] (e ∷ es) all = absurd all
  few_edges (h ∷ hs) [] all = omega arith
  few_edges (h ∷ hs) (e ∷ es) (inl one) = let r = few_edges hs es one.1 in omega arith
  few_edges (h ∷ hs) (e ∷ es) (inr left) = let r = few_edges hs (e ∷ es) left.1 in omega arith

  -- one more direction, with its edge
  pub edge_last : (hop : Hop) (edge : Edge) → HasEdge hop edge → (hops : List Hop) (edges : List Edge) → AreEdgesOf HasEdge IsLeft hops edges →
      AreEdgesOf HasEdge IsLeft (hops ++ hop ∷ []) (edges ++ edge ∷ [])
  edge_last hop edge has [] [] all = inl (has, tt)
  edge_last hop edge has [] (e ∷ es) all = absurd all
  edge_last hop edge has (h ∷ hs) [] all = inr (all.0, edge_last hop edge has hs [] all.1)
  edge_last hop edge has (h ∷ hs) (e ∷ es) (inl one) = inl (one.0, edge_last hop edge has hs es one.1)
  edge_last hop edge has (h ∷ hs) (e ∷ es) (inr left) = inr (left.0, edge_last hop edge has hs (e ∷ es) left.1)

  -- one more direction, which is left out
  pub left_last : (hop : Hop) → IsLeft hop → (hops : List Hop) (edges : List Edge) → AreEdgesOf HasEdge IsLeft hops edges →
      AreEdgesOf HasEdge IsLeft (hops ++ hop ∷ []) edges
  left_last hop left [] [] all = (left, tt)
  left_last hop left [] (e ∷ es) all = absurd all
  left_last hop left (h ∷ hs) [] all = (all.0, left_last hop left hs [] all.1)
  left_last hop left (h ∷ hs) (e ∷ es) (inl one) = inl (one.0, left_last hop left hs es one.1)
  left_last hop left (h ∷ hs) (e ∷ es) (inr skipped) = inr (skipped.0, left_last hop left hs (e ∷ es) skipped.1)

  -- edges stand in the order of their directions
  pub edges_in_order : ((hop : Hop) (edge : Edge) → HasEdge hop edge → edge ≡ edge_with edge.act hop) → (hops : List Hop) (edges : List Edge) →
      AreEdgesOf HasEdge IsLeft hops edges → IsOrdered BeforeHop hops → AreOrdered edges
  edges_in_order is [] [] all ordered = tt
  edges_in_order is [] (e ∷ es) all ordered = absurd all
  edges_in_order is (h ∷ hs) [] all ordered = tt
  edges_in_order is (h ∷ hs) (e ∷ es) (inl one) ordered = (
    all_from (Precedes e) es (λ f at. (let r = edge_hop hs es one.1 f at in precedes h r.0 e f (is h e one.0) (is r.0 f r.2) (ordered.0 r.0 r.1))),
    edges_in_order is hs es one.1 ordered.1,
  )
    where
      precedes : (x y : Hop) (e f : Edge) → e ≡ edge_with e.act x → f ≡ edge_with f.act y → BeforeHop x y → Precedes e f
      precedes x y e f a b before = subst (λ (z : Edge). Precedes z f) (sym a) (subst (λ (z : Edge). Precedes (edge_with e.act x) z) (sym b) before)
  edges_in_order is (h ∷ hs) (e ∷ es) (inr left) ordered = edges_in_order is hs (e ∷ es) left.1 ordered.1

-- what an edge has may become more
pub edges_as : (HasEdge HasMore : Hop → Edge → Type 0) (IsLeft : Hop → Type 0) → ((hop : Hop) (edge : Edge) → HasEdge hop edge → HasMore hop edge) →
    (hops : List Hop) (edges : List Edge) → AreEdgesOf HasEdge IsLeft hops edges → AreEdgesOf HasMore IsLeft hops edges
edges_as HasEdge HasMore IsLeft more [] [] all = tt
edges_as HasEdge HasMore IsLeft more [] (e ∷ es) all = all
edges_as HasEdge HasMore IsLeft more (h ∷ hs) [] all = (all.0, edges_as HasEdge HasMore IsLeft more hs [] all.1)
edges_as HasEdge HasMore IsLeft more (h ∷ hs) (e ∷ es) (inl one) = inl (more h e one.0, edges_as HasEdge HasMore IsLeft more hs es one.1)
edges_as HasEdge HasMore IsLeft more (h ∷ hs) (e ∷ es) (inr left) = inr (left.0, edges_as HasEdge HasMore IsLeft more hs (e ∷ es) left.1)
