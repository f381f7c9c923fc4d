-- The costs of adjacencies (RFC 2328 section 2.1), and edges whose acts are the places of their costs in a
-- list.
use Rattle.std.specs.Prelude.{◌≡◌, ◌⊎◌, ℕ, ◌≤◌, List, [], ◌∷◌, ◌++◌, length, Some, slice_get, Contains, option_and_then}
use Rattle.std.specs.Option.{unwrap_or}
use Rattle.base_kit.specs.declared.act_graph.Edge.{Edge}
use Rattle.cfg_ast.specs.declared.network.Router.{Router}
use Rattle.cfg_ast.specs.meaning.Topology.{cost_of}
use Rattle.distinct_values.specs.Distinct.{AreDistinct}
use Rattle.srp_build.specs.declared.costs.InterfaceAct.{InterfaceAct}
use Rattle.srp_build.specs.declared.hops.Hop.{Hop}
use Rattle.srp_build.specs.ActOrder.{AreByFirstUse}
use Rattle.srp_build.specs.HopEdges.{edge_with, AreEdgesOf}

-- the cost of an interface by its places, 0 where there is none
abbrev pub cost_at : List Router → ℕ → ℕ → ℕ
cost_at routers router item = unwrap_or (option_and_then (λ (r : Router). cost_of r item) (slice_get routers router)) 0

-- a direction costs what the importer's interface does
abbrev pub cost_of_hop : List Router → Hop → ℕ
cost_of_hop routers hop = cost_at routers hop.importer hop.importer_item

-- the act numbers the cost of the interface
pub record IsInterfaceAct (routers : List Router) (costs : List ℕ) (known : InterfaceAct) : Type 0 where
  pub cost : slice_get costs known.act ≡ Some (cost_at routers known.importer known.item)

-- an edge was put last, and its cost too if it was new
pub record HopAdded (routers : List Router) (old new : List ℕ) (edges more : List Edge) (hop : Hop) : Type 0 where
  pub act : ℕ
  pub found : slice_get new act ≡ Some (cost_of_hop routers hop)
  pub grown : (new ≡ old) ⊎ (new ≡ old ++ cost_of_hop routers hop ∷ [])
  pub distinct : AreDistinct new
  pub last : more ≡ edges ++ edge_with act hop ∷ []

-- the edge is that of the direction, and its act is a place of its cost
pub record IsEdgeOfHop (routers : List Router) (costs : List ℕ) (hop : Hop) (edge : Edge) : Type 0 where
  pub same : edge ≡ edge_with edge.act hop
  pub cost : slice_get costs edge.act ≡ Some (cost_of_hop routers hop)

abbrev pub never_left : Hop → Type 0
never_left hop = ⊥

-- a cost of one of the directions
pub record IsCostOf (routers : List Router) (hops : List Hop) (cost : ℕ) : Type 0 where
  pub hop : Hop
  pub hop_in : Contains hops hop
  pub same : cost_of_hop routers hop ≡ cost

-- each direction has an edge, and the costs are costs of directions, no more than these
pub record NumbersHops (routers : List Router) (costs : List ℕ) (hops : List Hop) (edges : List Edge) : Type 0 where
  pub each : AreEdgesOf (IsEdgeOfHop routers costs) never_left hops edges
  pub few : length costs ≤ length hops
  pub used : (cost : ℕ) → Contains costs cost → IsCostOf routers hops cost
  pub in_order : AreByFirstUse edges (length costs)
