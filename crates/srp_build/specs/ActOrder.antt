-- The order of acts: by the first edges that have them.
use Rattle.std.specs.Prelude.{◌≡◌, ℕ, ◌<◌, List, length, Some, slice_get}
use Rattle.base_kit.specs.declared.act_graph.Edge.{Edge}
use Rattle.srp_core.specs.Problem.{Problem}

-- an edge before that place has the act
pub record HasEarlier (edges : List Edge) (place act : ℕ) : Type 0 where
  pub earlier : ℕ
  pub before : earlier < place
  pub edge : Edge
  pub at : slice_get edges earlier ≡ Some edge
  pub same : edge.act ≡ act

-- some edge has each of the acts, and before each edge stand edges of all acts that are less than its own
pub record AreByFirstUse (edges : List Edge) (acts : ℕ) : Type 0 where
  pub used : (act : ℕ) → act < acts → HasEarlier edges (length edges) act
  pub in_order : (place act : ℕ) (edge : Edge) → slice_get edges place ≡ Some edge → act < edge.act → HasEarlier edges place act

-- the acts of a problem are those of its edges, in the order of the first edges that have them
abbrev pub AreActsByFirstUse : Problem → Type 0
AreActsByFirstUse problem = AreByFirstUse problem.edges (length problem.acts)
