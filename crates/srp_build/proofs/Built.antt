-- The parts put together are the problem of an OSPF network.
use Rattle.std.proofs.Common.{◌≡◌, ℕ, zero, suc, ◌<◌, ◌^◌, true, List, [], ◌∷◌, map, length, Option, Some, None, refl, sym, ◌∙◌, ap, subst, arith, inl, inr, true≢false, false}
use Rattle.std.specs.Prelude.{All, Contains, slice_get, slice_index_or}
use Rattle.std.proofs.Math.ListN.{get_or-map}
use Rattle.std.proofs.lemmas.List.{length-map}
use Rattle.base_kit.specs.declared.act_graph.Edge.{Edge}
use Rattle.base_kit.specs.declared.protocol.Protocol.TheVariants.{Ospf as OverOspf}
use Rattle.base_kit.specs.Prefixes.{Prefix}
use Rattle.base_kit.proofs.Elements.{In, contains_in, in_contains, map_in, get_in}
use Rattle.by_key.proofs.KeyedItems.{all_from}
use Rattle.cfg_ast.specs.declared.classes.Origin.{Origin}
use Rattle.cfg_ast.specs.declared.network.Network.{Network}
use Rattle.cfg_ast.specs.declared.network.Router.{Router}
use Rattle.cfg_ast.specs.meaning.Topology.{links_of}
use Rattle.srp_core.specs.declared.route.Route.{Route}
use Rattle.srp_core.specs.declared.route.Act.{Act}
use Rattle.srp_core.specs.declared.route.Act.TheVariants.{Cost}
use Rattle.srp_core.specs.Acts.{import_by, ActsAlike, KeepsSets, IsActOf}
use Rattle.srp_core.specs.Problem.{Problem, count, is_lone, act_of, IsEdgeOf, IsProblem}
use Rattle.srp_core.specs.ProblemOf.{as_number_of, start_route, Direction, IsDirection, MeansLink, StandsFor, IsProblemOf}
use Rattle.srp_build.specs.declared.hops.Hop.{Hop}
use Rattle.srp_build.specs.ActOrder.{AreByFirstUse}
use Rattle.srp_build.specs.Costs.{cost_at, cost_of_hop, IsEdgeOfHop, never_left, NumbersHops}
use Rattle.distinct_values.specs.Distinct.{AreDistinct}
use Rattle.srp_build.specs.HopEdges.{edge_with}
use Rattle.srp_build.specs.Ospf.{IsOspf, IsPriced}
use Rattle.srp_build.specs.Problem.{problem_with}
use Rattle.srp_build.specs.Starts.{starts_from}
use Rattle.srp_build.proofs.FirstUse.{within_get}
use Rattle.srp_build.proofs.HopEdges.{hop_edge, few_edges}
use Rattle.srp_build.proofs.LinkEnds.{link_ends}
use Rattle.srp_build.proofs.LinkPlaces.{direction_of, hop_for, is_direction, sorted_of, sorted_hop, sorted_direction}
use Rattle.srp_build.proofs.OspfRoutes.{has_starts, none_marked, priced_cost}
use Rattle.srp_build.proofs.SortedEdges.{from, importer_in, exporter_in, ends_differ, ordered, one_of_link}
use Rattle.srp_build.proofs.SortedHops.{IsHopOf}

act_at : (costs : List ℕ) (k : ℕ) → slice_index_or (map Cost costs) k (Cost 0) ≡ Cost (slice_index_or costs k 0)
act_at costs k = get_or-map Cost costs k 0

read_cost : (costs : List ℕ) (k c : ℕ) → slice_get costs k ≡ Some c → slice_index_or costs k 0 ≡ c
read_cost [] k c h = absurd cc
read_cost (x ∷ xs) zero c h = cc
read_cost (x ∷ xs) (suc k) c h = read_cost xs k c h

cost_there : (costs : List ℕ) (k : ℕ) → k < length costs → slice_get costs k ≡ Some (slice_index_or costs k 0)
cost_there [] k h = absurd (omega arith)
cost_there (x ∷ xs) zero h = refl
cost_there (x ∷ xs) (suc k) h = cost_there xs k (omega arith)

costs_keep : (costs : List ℕ) → All KeepsSets (map Cost costs)
unfolding KeepsSets
costs_keep costs = all_from KeepsSets (map Cost costs) (λ act at. (let m = map_in Cost costs act at in subst (λ (a : Act). KeepsSets a) m.2 tt))

-- the importer's interface has the cost of the direction
priced_hop : (n : Network) → IsOspf n → (hop : Hop) → IsHopOf (links_of n) hop → IsPriced n hop.importer hop.importer_item (cost_of_hop n.routers hop)
priced_hop n ospf hop of =
    let ends = link_ends n ospf of.link (get_in (links_of n) hop.link of.link of.at) in
    elim of.is [
      | inl low ↦ subst (λ (h : Hop). IsPriced n h.importer h.importer_item (cost_of_hop n.routers h)) (sym low)
          (as_priced of.link.low of.link.low_item ends.low_cost ends.low)
      | inr high ↦ subst (λ (h : Hop). IsPriced n h.importer h.importer_item (cost_of_hop n.routers h)) (sym high)
          (as_priced of.link.high of.link.high_item ends.high_cost ends.high)
    ]
  where
    as_priced : (place item cost : ℕ) → IsPriced n place item cost → IsPriced n place item (cost_at n.routers place item)
    as_priced place item cost priced = subst (λ (c : ℕ). IsPriced n place item c) (sym (priced_cost n place item cost priced)) priced

-- ---- the parts of a problem

pub record AreParts (n : Network) (p : Prefix) (init : List (Option Route)) (costs : List ℕ) (edges : List Edge) : Type 0 where
  pub ospf : IsOspf n
  pub starts : init ≡ map (start_route p) n.routers
  pub numbers : NumbersHops n.routers costs (sorted_of n) edges
  pub distinct : AreDistinct costs
  pub few : length (sorted_of n) < 2 ^ 32

module _ (n : Network) (p : Prefix) (init : List (Option Route)) (costs : List ℕ) (edges : List Edge) (parts : AreParts n p init costs edges) where
  abbrev pub made : Problem
  made = problem_with n init costs edges

  abbrev HasCost : Hop → Edge → Type 0
  HasCost = IsEdgeOfHop n.routers costs

  same_ends : (hop : Hop) (edge : Edge) → HasCost hop edge → edge ≡ edge_with edge.act hop
  same_ends hop edge has = has.same

  total : count made ≡ length n.routers
  total = length-map n.routers as_number_of

  edge_is : (edge : Edge) → Contains edges edge → IsEdgeOf made edge
  edge_is edge has =
      let f = from n HasCost never_left same_ends edges parts.numbers.each edge has in
      let acts : length (map Cost costs) ≡ length costs = length-map costs Cost in
      let inside = within_get costs edge.act (cost_of_hop n.routers f.hop) f.has.cost in
      let all = total in
      let a = importer_in n HasCost never_left same_ends edges parts.numbers.each edge has in
      let b = exporter_in n HasCost never_left same_ends edges parts.numbers.each edge has in
      record {
        importer_in = omega arith;
        exporter_in = omega arith;
        differ = ends_differ n HasCost never_left same_ends edges parts.numbers.each edge has;
        act_in = omega arith;
      }

  cost_fits : (cost : ℕ) → In costs cost → 0 < cost
  cost_fits cost at =
      let used = parts.numbers.used cost (contains_in costs cost at) in
      let positive = (priced_hop n parts.ospf used.hop (sorted_hop n used.hop (in_contains (sorted_of n) used.hop used.hop_in))).positive in
      let same = used.same in
      omega arith

  act_fits : (act : Act) → In (map Cost costs) act → IsActOf OverOspf act
  act_fits act at = mapped costs (λ cost h. cost_fits cost h) at
    where
      mapped : (cs : List ℕ) → ((cost : ℕ) → In cs cost → 0 < cost) → In (map Cost cs) act → IsActOf OverOspf act
      mapped [] fits h = absurd h
      mapped (c ∷ cs) fits (inl same) = subst (λ (a : Act). IsActOf OverOspf a) same (fits c (inl refl))
      mapped (c ∷ cs) fits (inr h) = mapped cs (λ cost i. fits cost (inr i)) h

  acts_differ : (i j : ℕ) → i < length (map Cost costs) → j < length (map Cost costs) →
      ActsAlike (slice_index_or (map Cost costs) i (Cost 0)) (slice_index_or (map Cost costs) j (Cost 0)) → i ≡ j
  acts_differ i j a b alike =
      let acts : length (map Cost costs) ≡ length costs = length-map costs Cost in
      let both : ActsAlike (Cost (slice_index_or costs i 0)) (Cost (slice_index_or costs j 0)) =
      subst (λ (x : Act). ActsAlike x (Cost (slice_index_or costs j 0))) (act_at costs i)
      (subst (λ (y : Act). ActsAlike (slice_index_or (map Cost costs) i (Cost 0)) y) (act_at costs j) alike) in
      parts.distinct.one_place i j (slice_index_or costs i 0) (cost_there costs i (omega arith))
      (cost_there costs j (omega arith) ∙ ap (λ (c : ℕ). Some c) (sym both))

  never_lone : (u : ℕ) → is_lone made u ≡ true → ⊥
  never_lone u h = true≢false (sym h ∙ none_marked n.routers u)

  no_import : (edge : Edge) (comms : List ℕ) → import_by (act_of made edge) comms ≡ None
  unfolding import_by
  no_import edge comms = ap (λ (a : Act). import_by a comms) (act_at costs edge.act)

  pub rules : IsProblem made
  rules = record {
    tables = record {
      few_routers = let all = total in let few = parts.ospf.few_routers in omega arith;
      few_edges = let a = few_edges HasCost never_left (sorted_of n) edges parts.numbers.each in let few = parts.few in omega arith;
      names = length-map n.routers (λ (router : Router). router.name) ∙ sym total;
      init = ap (λ (l : List (Option Route)). length l) parts.starts ∙ length-map n.routers (start_route p) ∙ sym total;
      lone = length-map n.routers (λ (router : Router). false) ∙ sym total;
    };
    edges = record {
      inside = edge_is;
      ordered = ordered n HasCost never_left same_ends edges parts.numbers.each;
      one_of_link = one_of_link n HasCost never_left same_ends edges parts.numbers.each;
    };
    acts = record { fit = all_from (IsActOf OverOspf) (map Cost costs) act_fits; keep = costs_keep costs; differ = acts_differ };
    starts = has_starts n parts.ospf p made refl parts.starts;
    numbers = λ e. absurd cc;
    marks = record {
      only = λ u a h. absurd (never_lone u h);
      all = λ u a lone. (let none = no_import lone.first_accepted.edge lone.first_accepted.comms in let some = lone.first_accepted.accepted in absurd cc);
    };
  }

  abbrev MeansAs : Hop → Act → Type 0
  MeansAs hop a = MeansLink n p (direction_of hop) a

  edge_stands : (hop : Hop) (edge : Edge) → HasCost hop edge → IsHopOf (links_of n) hop → StandsFor made n p edge (direction_of hop)
  edge_stands hop edge has of =
      let priced = priced_hop n parts.ospf hop of in
      record {
        is_direction = is_direction n hop of;
        is_edge = tt;
        link = ap (λ (e : Edge). e.link) has.same;
        importer = ap (λ (e : Edge). e.importer) has.same;
        exporter = ap (λ (e : Edge). e.exporter) has.same;
        means = subst (MeansAs hop) (sym (act_at costs edge.act ∙ ap Cost (read_cost costs edge.act (cost_of_hop n.routers hop) has.cost)))
            (record { importer = priced.router; importer_at = priced.at; same = priced.is });
      }

  edge_for : (d : Direction) → IsDirection n d → (edge : Edge) × Contains edges edge × StandsFor made n p edge d
  edge_for d is =
      let at = sorted_direction n d is in
      elim (hop_edge HasCost never_left (sorted_of n) edges parts.numbers.each (hop_for d) at) [
        | inl has ↦ (has.0, contains_in edges has.0 has.1, edge_stands (hop_for d) has.0 has.2 (sorted_hop n (hop_for d) at))
        | inr none ↦ absurd none
      ]

  pub problem_is : IsProblemOf n p made
  problem_is = record {
    rules = rules;
    protocol = parts.ospf.protocol;
    names = refl;
    numbers = refl;
    init = parts.starts;
    edges_stand = λ edge has. (let f = from n HasCost never_left same_ends edges parts.numbers.each edge has in
        (direction_of f.hop, edge_stands f.hop edge f.has f.of));
    edges_all = λ d is carries. edge_for d is;
  }

-- the parts, as the code makes them
pub parts_of : (n : Network) (p : Prefix) (routers : List Router) (origins class_origins : List Origin) (init : List (Option Route)) (costs : List ℕ)
    (edges : List Edge)
    → IsOspf n → routers ≡ n.routers → origins ≡ class_origins → starts_from 0 class_origins n.routers ≡ map (start_route p) n.routers →
    init ≡ starts_from 0 origins routers
    → NumbersHops n.routers costs (sorted_of n) edges → AreDistinct costs → length (sorted_of n) < 2 ^ 32 → AreParts n p init costs edges
parts_of n p routers origins class_origins init costs edges ospf routers_are origins_are starts init_is numbers distinct few = record {
  ospf = ospf;
  starts = init_is ∙ ap (λ (o : List Origin). starts_from 0 o routers) origins_are ∙ ap (λ (r : List Router). starts_from 0 class_origins r) routers_are
      ∙ starts;
  numbers = numbers;
  distinct = distinct;
  few = few;
}

pub acts_by_first_use : (costs : List ℕ) (edges : List Edge) → AreByFirstUse edges (length costs) → AreByFirstUse edges (length (map Cost costs))
acts_by_first_use costs edges order = subst (λ (k : ℕ). AreByFirstUse edges k) (sym (length-map costs Cost)) order
