-- Edges whose acts are numbered where they stand.
use Rattle.std.proofs.Common.{◌≡◌, ℕ, ◌+◌, ◌<◌, ◌≤◌, ◌⊎◌, inl, inr, List, [], ◌∷◌, ◌++◌, length, map, take, drop, get_or, slice_get, Option, Some, sym, ◌∙◌, ap, subst, arith}
use Rattle.std.proofs.Math.ListN.{set}
use Rattle.std.proofs.lemmas.List.{get_or-map, get_or-drop, length-map, take_all, take_more_set, drop-set-lt}
use Rattle.std.proofs.lemmas.Grind.{drop_more_same}
use Rattle.base_kit.specs.declared.act_graph.Edge.{Edge}
use Rattle.base_kit.proofs.Elements.{in_contains, contains_in, map_in}
use Rattle.cfg_ast.specs.declared.network.Router.{Router}
use Rattle.distinct_values.specs.Distinct.{AreDistinct}
use Rattle.srp_build.specs.declared.costs.InterfaceAct.{InterfaceAct}
use Rattle.srp_build.specs.declared.hops.Hop.{Hop}
use Rattle.srp_build.specs.Costs.{cost_of_hop, IsEdgeOfHop, never_left, IsCostOf, NumbersHops}
use Rattle.srp_build.specs.HopEdges.{edge_with, AreEdgesOf}
use Rattle.srp_build.specs.PlacedEdges.{unnumbered_edge, hop_of}
use Rattle.srp_build.proofs.CostPlaces.{AreNumberedTo, numbers_next}

-- an edge from a place on stands where it stood
unmoved : (first edges : List Edge) (place : ℕ) (edge : Edge) → drop place edges ≡ drop place first → get_or first place edge ≡ get_or edges place edge
unmoved first edges place edge rest =
    let here : place + 0 ≡ place = omega arith in
    ap (λ (k : ℕ). get_or first k edge) (sym here) ∙ sym (get_or-drop place first 0 edge) ∙ ap (λ (l : List Edge). get_or l 0 edge) (sym rest)
    ∙ get_or-drop place edges 0 edge ∙ ap (λ (k : ℕ). get_or edges k edge) here

module _ (routers : List Router) where
  -- one more edge has its act
  numbered_next : (old new : List ℕ) (first edges : List Edge) (place act : ℕ) (edge : Edge) (last : Option InterfaceAct) →
      length edges ≡ length first → place < length first → edge ≡ get_or edges place edge → drop place edges ≡ drop place first →
      AreNumberedTo routers old (take place (map hop_of first)) (take place edges) last → slice_get new act ≡ Some (cost_of_hop routers (hop_of edge)) →
      (new ≡ old) ⊎ (new ≡ old ++ cost_of_hop routers (hop_of edge) ∷ []) → AreDistinct new →
      AreNumberedTo routers new (take (place + 1) (map hop_of first)) (take (place + 1) (set edges place (edge_with act (hop_of edge))))
      (Some (record { importer = edge.importer; item = edge.act; act = act }))
  numbered_next old new first edges place act edge last size inside is rest numbered found grown distinct =
      let hops = map hop_of first in
      let hop = hop_of edge in
      let more = set edges place (edge_with act hop) in
      let within : place < length hops = (let e = length-map first hop_of in omega arith) in
      let at : get_or hops place hop ≡ hop = get_or-map hop_of first place edge hop inside ∙ ap hop_of (unmoved first edges place edge rest ∙ sym is) in
      record {
        numbers = numbers_next routers old new hops place (take place edges) (take (place + 1) more) hop hop within at numbered.numbers
            (record { act = act; found = found; grown = grown; distinct = distinct; last = take_more_set edges place (edge_with act hop) (omega arith) });
        known = record { cost = found };
      }

  pub numbered_edge : (old new : List ℕ) (first edges : List Edge) (place act : ℕ) (edge : Edge) (hop : Hop) (last : Option InterfaceAct) →
      length edges ≡ length first → place < length first → edge ≡ get_or edges place edge → hop ≡ hop_of edge → drop place edges ≡ drop place first →
      AreNumberedTo routers old (take place (map hop_of first)) (take place edges) last → slice_get new act ≡ Some (cost_of_hop routers hop) →
      (new ≡ old) ⊎ (new ≡ old ++ cost_of_hop routers hop ∷ []) → AreDistinct new →
      AreNumberedTo routers new (take (place + 1) (map hop_of first)) (take (place + 1) (set edges place (edge_with act (hop_of edge))))
      (Some (record { importer = edge.importer; item = edge.act; act = act }))
  numbered_edge old new first edges place act edge hop last size inside is hop_is rest numbered found grown distinct =
      numbered_next old new first edges place act edge last size inside is rest numbered (found ∙ ap (λ (h : Hop). Some (cost_of_hop routers h)) hop_is)
      (subst (λ (h : Hop). (new ≡ old) ⊎ (new ≡ old ++ cost_of_hop routers h ∷ [])) hop_is grown) distinct

  pub rest_next : (first edges : List Edge) (place : ℕ) (edge : Edge) → drop place edges ≡ drop place first →
      drop (place + 1) (set edges place edge) ≡ drop (place + 1) first
  rest_next first edges place edge rest = drop-set-lt (place + 1) edges place edge (omega arith) ∙ drop_more_same edges first place rest

  -- all edges have their acts
  pub all_numbered : (costs : List ℕ) (first edges : List Edge) (place : ℕ) (last : Option InterfaceAct) → length edges ≡ length first → length first ≤ place →
      AreNumberedTo routers costs (take place (map hop_of first)) (take place edges) last → NumbersHops routers costs (map hop_of first) edges
  all_numbered costs first edges place last size past numbered =
      let hops = length-map first hop_of in
      subst (λ (l : List Hop). NumbersHops routers costs l edges) (take_all place (map hop_of first) (omega arith))
      (subst (NumbersHops routers costs (take place (map hop_of first))) (take_all place edges (omega arith)) numbered.numbers)

  each_of : (costs : List ℕ) (hops : List Hop) (edges : List Edge) →
      AreEdgesOf (IsEdgeOfHop routers costs) never_left (map hop_of (map unnumbered_edge hops)) edges →
      AreEdgesOf (IsEdgeOfHop routers costs) never_left hops edges
  each_of costs [] [] all = all
  each_of costs [] (e ∷ es) all = all
  each_of costs (h ∷ hs) [] all = absurd all.0
  each_of costs (h ∷ hs) (e ∷ es) (inl one) = inl (record { same = one.0.same; cost = one.0.cost }, each_of costs hs es one.1)
  each_of costs (h ∷ hs) (e ∷ es) (inr left) = absurd left.0

  used_of : (hops : List Hop) (cost : ℕ) → IsCostOf routers (map hop_of (map unnumbered_edge hops)) cost → IsCostOf routers hops cost
  used_of hops cost used =
      let m = map_in hop_of (map unnumbered_edge hops) used.hop (in_contains (map hop_of (map unnumbered_edge hops)) used.hop used.hop_in) in
      let n = map_in unnumbered_edge hops m.0 m.1 in
      record {
        hop = n.0;
        hop_in = contains_in hops n.0 n.1;
        same = ap (λ (e : Edge). cost_of_hop routers (hop_of e)) n.2 ∙ ap (cost_of_hop routers) m.2 ∙ used.same;
      }

  -- directions that are read from their edges are numbered as the directions are
  pub numbers_of_hops : (costs : List ℕ) (hops : List Hop) (edges : List Edge) → NumbersHops routers costs (map hop_of (map unnumbered_edge hops)) edges →
      NumbersHops routers costs hops edges
  numbers_of_hops costs hops edges numbers = record {
    each = each_of costs hops edges numbers.each;
    few = (let a = numbers.few in let b = length-map (map unnumbered_edge hops) hop_of in let c = length-map hops unnumbered_edge in omega arith);
    used = λ cost at. used_of hops cost (numbers.used cost at);
    in_order = numbers.in_order;
  }
