-- Costs that are all different, and edges that number them.
use Rattle.std.proofs.Common.{◌≡◌, ℕ, ◌+◌, ◌<◌, ◌≤◌, true, List, [], ◌∷◌, ◌++◌, ◌⊎◌, length, take, get_or, slice_get, nat_eq, Option, Some, refl, sym, ◌∙◌, ap, subst, arith, inl, inr}
use Rattle.std.specs.Prelude.{Contains, IfSome}
use Rattle.std.specs.List.{IsDistinct}
use Rattle.std.proofs.lemmas.Bool.Decides.{nat_tests}
use Rattle.base_kit.specs.declared.act_graph.Edge.{Edge}
use Rattle.base_kit.proofs.Elements.{In, in_contains, contains_in, append_in, in_left, in_right}
use Rattle.cfg_ast.specs.declared.network.Router.{Router}
use Rattle.distinct_values.proofs.Interned.{distinct_places}
use Rattle.srp_build.specs.declared.costs.InterfaceAct.{InterfaceAct}
use Rattle.srp_build.specs.declared.hops.Hop.{Hop}
use Rattle.srp_build.specs.ActOrder.{AreByFirstUse}
use Rattle.srp_build.specs.Costs.{cost_of_hop, IsInterfaceAct, HopAdded, IsEdgeOfHop, never_left, IsCostOf, NumbersHops}
use Rattle.distinct_values.specs.Distinct.{AreDistinct}
use Rattle.srp_build.specs.HopEdges.{edge_with, AreEdgesOf}
use Rattle.srp_build.proofs.FirstUse.{length_last, get_front, get_last, within_get, take_more, IsOldOrNext, first_use_next}
use Rattle.srp_build.proofs.HopEdges.{edge_last, edges_as}

same_number : (x : ℕ) → nat_eq x x ≡ true
same_number x = grind (arith, nat_tests)

pub distinct_costs : (xs : List ℕ) → IsDistinct nat_eq xs → AreDistinct xs
distinct_costs = distinct_places nat_eq same_number

-- what stands at a place stands there still when more is put last
get_grown : (old new : List ℕ) (cost i x : ℕ) → (new ≡ old) ⊎ (new ≡ old ++ cost ∷ []) → slice_get old i ≡ Some x → slice_get new i ≡ Some x
get_grown old new cost i x (inl same) at = ap (λ (l : List ℕ). slice_get l i) same ∙ at
get_grown old new cost i x (inr more) at = ap (λ (l : List ℕ). slice_get l i) more ∙ get_front old (cost ∷ []) i x at

length_grown : (old new : List ℕ) (cost : ℕ) → (new ≡ old) ⊎ (new ≡ old ++ cost ∷ []) → length new ≤ length old + 1
length_grown old new cost (inl same) = omega (arith, ap (λ (l : List ℕ). length l) same)
length_grown old new cost (inr more) = let e = ap (λ (l : List ℕ). length l) more in let s = length_last old cost in omega arith

-- the act of the last edge is one of the old acts, or the next one
act_known : (old new : List ℕ) (cost act : ℕ) → AreDistinct new → slice_get new act ≡ Some cost → (new ≡ old) ⊎ (new ≡ old ++ cost ∷ []) →
    IsOldOrNext (length old) (length new) act
act_known old new cost act distinct at (inl same) = let inside = within_get new act cost at in let e = ap (λ (l : List ℕ). length l) same in
    inl (e, omega arith)
act_known old new cost act distinct at (inr more) = inr (
  ap (λ (l : List ℕ). length l) more ∙ length_last old cost,
  distinct.one_place act (length old) cost at (ap (λ (l : List ℕ). slice_get l (length old)) more ∙ get_last old cost),
)

-- directions so far, and the act of the last one's interface
pub record AreNumberedTo (routers : List Router) (costs : List ℕ) (hops : List Hop) (edges : List Edge) (last : Option InterfaceAct) : Type 0 where
  pub numbers : NumbersHops routers costs hops edges
  pub known : IfSome last (IsInterfaceAct routers costs)

module _ (routers : List Router) where
  cost_kept : (hops : List Hop) (hop : Hop) (cost : ℕ) → IsCostOf routers hops cost → IsCostOf routers (hops ++ hop ∷ []) cost
  cost_kept hops hop cost is = record {
    hop = is.hop;
    hop_in = contains_in _ _ (in_left hops (hop ∷ []) is.hop (in_contains hops is.hop is.hop_in));
    same =
        is.same;
  }

  cost_last : (hops : List Hop) (hop : Hop) (cost : ℕ) → cost_of_hop routers hop ≡ cost → IsCostOf routers (hops ++ hop ∷ []) cost
  cost_last hops hop cost same = record { hop = hop; hop_in = contains_in _ _ (in_right hops (hop ∷ []) hop (inl refl)); same = same }

  used_last : (old new : List ℕ) (hops : List Hop) (hop : Hop) → ((cost : ℕ) → Contains old cost → IsCostOf routers hops cost) →
      (new ≡ old) ⊎ (new ≡ old ++ cost_of_hop routers hop ∷ []) → (cost : ℕ) → In new cost → IsCostOf routers (hops ++ hop ∷ []) cost
  used_last old new hops hop used (inl same) cost at = cost_kept hops hop cost (used cost (contains_in old cost (subst (λ (l : List ℕ). In l cost) same at)))
  used_last old new hops hop used (inr more) cost at = elim (append_in old (cost_of_hop routers hop ∷ []) cost (subst (λ (l : List ℕ). In l cost) more at)) [
    | inl before ↦ cost_kept hops hop cost (used cost (contains_in old cost before))
    | inr now ↦ elim now [
      | inl same ↦ cost_last hops hop cost same
      | inr none ↦ absurd none
    ]
  ]

  edge_kept : (old new : List ℕ) (cost : ℕ) → (new ≡ old) ⊎ (new ≡ old ++ cost ∷ []) → (hop : Hop) (edge : Edge) → IsEdgeOfHop routers old hop edge →
      IsEdgeOfHop routers new hop edge
  edge_kept old new cost grown hop edge of = record { same = of.same; cost = get_grown old new cost edge.act (cost_of_hop routers hop) grown of.cost }

  numbers_last : (old new : List ℕ) (hops : List Hop) (edges more : List Edge) (hop : Hop) → NumbersHops routers old hops edges →
      HopAdded routers old new edges more hop → NumbersHops routers new (hops ++ hop ∷ []) more
  numbers_last old new hops edges more hop numbers added =
      let last : Edge = edge_with added.act hop in
      let cost = cost_of_hop routers hop in
      let kept = edges_as (IsEdgeOfHop routers old) (IsEdgeOfHop routers new) never_left (edge_kept old new cost added.grown) hops edges numbers.each in
      record {
        each = subst (λ (l : List Edge). AreEdgesOf (IsEdgeOfHop routers new) never_left (hops ++ hop ∷ []) l) (sym added.last)
            (edge_last (IsEdgeOfHop routers new) never_left hop last (record { same = refl; cost = added.found }) hops edges kept);
        few = let a = length_grown old new cost added.grown in let b = numbers.few in let c = length_last hops hop in omega arith;
        used = λ cost at. used_last old new hops hop numbers.used added.grown cost (in_contains new cost at);
        in_order = subst (λ (l : List Edge). AreByFirstUse l (length new)) (sym added.last)
            (first_use_next (length old) (length new) edges last numbers.in_order (act_known old new cost added.act added.distinct added.found added.grown));
      }

  -- one more direction of a list
  pub numbers_next : (old new : List ℕ) (hops : List Hop) (i : ℕ) (edges more : List Edge) (hop d : Hop) → i < length hops → get_or hops i d ≡ hop →
      NumbersHops routers old (take i hops) edges → HopAdded routers old new edges more hop → NumbersHops routers new (take (i + 1) hops) more
  numbers_next old new hops i edges more hop d within at numbers added =
      subst (λ (l : List Hop). NumbersHops routers new l more) (sym (take_more hops i hop d within at))
      (numbers_last old new (take i hops) edges more hop numbers added)
