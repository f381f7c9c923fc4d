-- A class of an OSPF network has a problem: its acts are the different costs, in the order of the first edges that have them.
use Rattle.std.proofs.Common.{◌≡◌, ◌⊎◌, inl, ℕ, zero, suc, ◌<◌, ◌^◌, List, [], ◌∷◌, map, length, Some, refl, sym, ap, ◌∙◌, subst, arith}
use Rattle.std.specs.Prelude.{slice_get, Contains}
use Rattle.std.proofs.lemmas.Bool.{cases_eq}
use Rattle.std.proofs.lemmas.List.{length-map}
use Rattle.base_kit.specs.declared.act_graph.Edge.{Edge}
use Rattle.base_kit.specs.Prefixes.{Prefix}
use Rattle.base_kit.proofs.Elements.{contains_in, in_contains, in_get, map_in}
use Rattle.cfg_ast.specs.declared.classes.DestClass.{DestClass}
use Rattle.cfg_ast.specs.declared.network.Network.{Network}
use Rattle.cfg_ast.specs.meaning.Classes.{classes_of}
use Rattle.distinct_values.specs.Distinct.{AreDistinct}
use Rattle.srp_core.specs.Problem.{Problem}
use Rattle.srp_core.specs.ProblemOf.{IsProblemOf}
use Rattle.srp_build.specs.declared.hops.Hop.{Hop}
use Rattle.srp_build.specs.ActOrder.{AreByFirstUse}
use Rattle.srp_build.specs.Costs.{cost_of_hop, never_left, IsEdgeOfHop, NumbersHops}
use Rattle.srp_build.specs.Directions.{directions_of}
use Rattle.srp_build.specs.Ospf.{IsOspf}
use Rattle.srp_build.specs.Starts.{starts_from}
use Rattle.srp_build.proofs.Built.{acts_by_first_use, made, problem_is, AreParts}
use Rattle.srp_build.proofs.HopEdges.{edges_as}
use Rattle.srp_build.proofs.OspfActs.{ospf_first_acts}
use Rattle.srp_build.proofs.StartsOfClass.{starts_of_class}
use Rattle.srp_build.specs.Exists.{HasProblem}
use Rattle.srp_build.proofs.NumberedActs.{all_numbered, AreNumbered, HasAct}

map_get : (f : Hop → ℕ) (xs : List Hop) (k : ℕ) (x : Hop) → slice_get xs k ≡ Some x → slice_get (map f xs) k ≡ Some (f x)
map_get f [] k x at = absurd cc
map_get f (y ∷ ys) zero x at = ap (λ (h : Hop). Some (f h)) (let same : y ≡ x = cc in same)
map_get f (y ∷ ys) (suc k) x at = map_get f ys k x at

-- what stands at a place of a mapped list
record Mapped (f : Hop → ℕ) (xs : List Hop) (k y : ℕ) : Type 0 where
  item : Hop
  at : slice_get xs k ≡ Some item
  is : f item ≡ y

get_map : (f : Hop → ℕ) (xs : List Hop) (k y : ℕ) → slice_get (map f xs) k ≡ Some y → Mapped f xs k y
get_map f [] k y at = absurd cc
get_map f (x ∷ xs) zero y at = record { item = x; at = refl; is = (let same : f x ≡ y = cc in same) }
get_map f (x ∷ xs) (suc k) y at = (let m = get_map f xs k y at in record { item = m.item; at = m.at; is = m.is })

module _ (n : Network) (ospf : IsOspf n) (few : length (directions_of n) < 2 ^ 32) where
  abbrev cost : Hop → ℕ
  cost = cost_of_hop n.routers

  abbrev SameCost : Hop → Hop → Type 0
  SameCost a b = cost a ≡ cost b

  abbrev Any : Hop → Type 0
  Any hop = Unit {0}

  own : (a : Hop) → SameCost a a
  own a = refl

  turn : (a b : Hop) → SameCost a b → SameCost b a
  turn a b same = sym same

  decide : (a b : Hop) → Any a → Any b → SameCost a b ⊎ (SameCost a b → ⊥)
  decide a b _ _ = cases_eq (cost a) (cost b)

  choose : (a : Hop) → Any a → Any a ⊎ never_left a
  choose a _ = inl tt

  numbered : AreNumbered SameCost own turn Any decide Any never_left choose (directions_of n)
  numbered = all_numbered SameCost own turn Any decide Any never_left choose (directions_of n) (λ a at. tt)

  costs : List ℕ
  costs = map cost numbered.acts

  has_cost : (hop : Hop) (edge : Edge) → HasAct SameCost own turn Any decide Any never_left choose numbered.acts hop edge → IsEdgeOfHop n.routers costs hop edge
  unfolding costs
  has_cost hop edge has = record { same = has.same; cost = map_get cost numbered.acts edge.act has.act has.at ∙ ap (λ (c : ℕ). Some c) (sym has.like) }

  longs : length costs ≡ length numbered.acts
  unfolding costs
  longs = length-map numbered.acts cost

  numbers : NumbersHops n.routers costs (directions_of n) numbered.edges
  unfolding costs
  numbers = record {
    each = edges_as (HasAct SameCost own turn Any decide Any never_left choose numbered.acts) (IsEdgeOfHop n.routers costs) never_left has_cost
        (directions_of n) numbered.edges numbered.each;
    few = (let same = longs in let less = numbered.few in omega arith);
    used = λ c inside. (
        let m = map_in cost numbered.acts c (in_contains costs c inside) in
        let place = in_get numbered.acts m.0 m.1 in
        record { hop = m.0; hop_in = contains_in (directions_of n) m.0 (numbered.within place.0 m.0 place.1); same = m.2 });
    in_order = subst (λ (k : ℕ). AreByFirstUse numbered.edges k) (sym longs) numbered.order;
  }

  distinct : AreDistinct costs
  unfolding costs
  distinct = record {
    one_place = λ i j c at at'. (
        let a = get_map cost numbered.acts i c at in
        let b = get_map cost numbered.acts j c at' in
        numbered.apart i j a.item b.item a.at b.at (a.is ∙ sym b.is));
  }

  module _ (class : DestClass) (has : Contains (classes_of n) class) where
    parts : (p : Prefix) → Contains class.prefixes p → AreParts n p (starts_from 0 class.origins n.routers) costs numbered.edges
    parts p inside = record { ospf = ospf; starts = starts_of_class n class p has inside; numbers = numbers; distinct = distinct; few = few }

    pub some_problem : (first : Prefix) → Contains class.prefixes first → HasProblem n class
    some_problem first inside =
        let problem : Problem = made n first (starts_from 0 class.origins n.routers) costs numbered.edges (parts first inside) in
        let of : (p : Prefix) → Contains class.prefixes p → IsProblemOf n p problem = λ p i.
        problem_is n p (starts_from 0 class.origins n.routers) costs numbered.edges (parts p i) in
        record {
          problem = problem;
          built = record {
            of = of;
            order = acts_by_first_use costs numbered.edges numbers.in_order;
            acts = λ p i. ospf_first_acts n p problem refl (of p i);
          };
        }
