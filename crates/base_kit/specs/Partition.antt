-- Partitions of the routers of a graph, each given as the list of the routers' groups.
use Rattle.std.specs.Prelude.{◌≡◌, ◌≢◌, ℕ, ◌<◌, List, length, slice_index, All, Any, Contains, ◌==◌, filter}
use Rattle.std.specs.List.{range_with_len}
use Rattle.base_kit.specs.declared.act_graph.Edge.{Edge}
use Rattle.base_kit.specs.declared.act_graph.ActGraph.{ActGraph}

-- the color of a router
abbrev pub color : ActGraph → ℕ → ℕ
color graph router = slice_index graph.colors router

-- the router has an edge into the group of this edge's exporter that acts as this edge does
abbrev pub HasTwin : List Edge → List ℕ → ℕ → Edge → Type 0
HasTwin edges groups router edge =
    Any (λ other. (other.importer ≡ router) × (other.act ≡ edge.act) × (slice_index groups other.exporter ≡ slice_index groups edge.exporter)) edges

-- if this is an edge of `router` into another group, then `other` has a twin of it
pub record HasTwinIfOutgoing (edges : List Edge) (groups : List ℕ) (router other : ℕ) (edge : Edge) : Type 0 where
  pub twin : edge.importer ≡ router → slice_index groups edge.exporter ≢ slice_index groups router → HasTwin edges groups other edge

-- each edge of `router` into another group has a twin at `other`
unfoldable pub IsMirroredAt : List Edge → List ℕ → ℕ → ℕ → Type 0
IsMirroredAt edges groups router other = All (HasTwinIfOutgoing edges groups router other) edges

-- members of one group have equal colors, and mirror each other's edges into other groups
pub record IsAdmissibleOn (graph : ActGraph) (groups : List ℕ) : Type 0 where
  pub total : length groups ≡ graph.count
  pub colors : (u v : ℕ) → u < graph.count → v < graph.count → slice_index groups u ≡ slice_index groups v → color graph u ≡ color graph v
  pub edges : (u v : ℕ) → u < graph.count → v < graph.count → slice_index groups u ≡ slice_index groups v → IsMirroredAt graph.edges groups u v

-- routers below `count` that are together in the finer partition are together in the coarser one
abbrev pub Refines : ℕ → List ℕ → List ℕ → Type 0
Refines count finer coarser =
    (u v : ℕ) → u < count → v < count → slice_index finer u ≡ slice_index finer v → slice_index coarser u ≡ slice_index coarser v

-- an admissible partition that every admissible partition refines
pub record IsCoarsestOn (graph : ActGraph) (groups : List ℕ) : Type 0 where
  pub admissible : IsAdmissibleOn graph groups
  pub refined : (others : List ℕ) → IsAdmissibleOn graph others → Refines graph.count others groups

-- The groups are numbered from 0 below `count`, by their least members: before each router stands a
-- member of each group with a smaller number.
pub record IsNumbered (groups : List ℕ) (count : ℕ) : Type 0 where
  pub below : All (λ group. group < count) groups
  pub used : (group : ℕ) → group < count → Contains groups group
  pub in_order : (v group : ℕ) → v < length groups → group < slice_index groups v → (u : ℕ) × (u < v) × (slice_index groups u ≡ group)

-- the members of a group among the first routers, ascending
abbrev pub members_among : ℕ → List ℕ → ℕ → List ℕ
members_among count groups group = filter (λ router. slice_index groups router == group) (range_with_len 0 count)

-- the members of a group, ascending
abbrev pub members_of : List ℕ → ℕ → List ℕ
members_of groups group = filter (λ router. slice_index groups router == group) (range_with_len 0 (length groups))
