-- The edges of a graph by their importers.
use Rattle.std.specs.Prelude.{◌≡◌, ℕ, ◌+◌, ◌<◌, Bool, ◌==◌, List, [], ◌∷◌, length, filter, slice_index_or, Vec}
use Rattle.std.specs.declared.alloc.Global.{Global}
use Rattle.base_kit.specs.declared.act_graph.Edge.{Edge}
use Rattle.base_kit.specs.declared.act_graph.ActGraph.{ActGraph}
use Rattle.cut_certificate.specs.declared.outgoing.Placed.{Placed}

-- the edges with their places, the first of which is this one
abbrev pub placed : ℕ → List Edge → List Placed
placed place [] = []
placed place (edge ∷ edges) = record { place = place; edge = edge } ∷ placed (place + 1) edges

abbrev pub is_of : ℕ → Placed → Bool
is_of router p = p.edge.importer == router

-- the edges that the router imports over
abbrev pub edges_of : List Edge → ℕ → List Placed
edges_of edges router = filter (is_of router) (placed 0 edges)

pub record AreByImporter (edges : List Edge) (lists : List (Vec Placed Global)) : Type 0 where
  pub each : (router : ℕ) (d : Vec Placed Global) → router < length lists → (slice_index_or lists router d).items ≡ edges_of edges router

-- a list for each router
pub record AreIndexed (graph : ActGraph) (lists : List (Vec Placed Global)) : Type 0 where
  pub total : length lists ≡ graph.count
  pub lists_of : AreByImporter graph.edges lists
