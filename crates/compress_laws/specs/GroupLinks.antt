-- How many links stand between two groups (Beckett, Gupta, Mahajan and Walker, Control Plane Compression,
-- SIGCOMM 2018, section 5).
use Rattle.std.specs.Prelude.{◌≡◌, ℕ, Bool, ◌&&◌, List, [], ◌∷◌, Contains, filter, length, max, nat_eq}
use Rattle.base_kit.specs.declared.act_graph.Edge.{Edge}
use Rattle.cfg_ast.specs.declared.network.Network.{Network}
use Rattle.cfg_ast.specs.declared.topology.Link.{Link}
use Rattle.cfg_ast.specs.meaning.Topology.{links_of}
use Rattle.srp_core.specs.Acts.{ActsAlike}
use Rattle.srp_core.specs.Problem.{Problem, act_of}
use Rattle.srp_core.specs.Quotient.{group_of}

-- an edge into group g from group h
pub record IsEdgeInto (problem : Problem) (groups : List ℕ) (g h : ℕ) (edge : Edge) : Type 0 where
  pub has : Contains problem.edges edge
  pub importer : group_of groups edge.importer ≡ g
  pub exporter : group_of groups edge.exporter ≡ h

-- no two of the edges act alike
abbrev pub ActDifferently : Problem → List Edge → Type 0
ActDifferently problem [] = Unit {0}
ActDifferently problem (edge ∷ edges) = ((other : Edge) → Contains edges other → ¬ ActsAlike (act_of problem edge) (act_of problem other)) × ActDifferently problem edges

-- One edge for each act of the edges into g from h: no two of them act alike, and each edge into g from h acts as
-- one of them does.
pub record HasOneOfEachAct (problem : Problem) (groups : List ℕ) (g h : ℕ) (edges : List Edge) : Type 0 where
  pub into : (edge : Edge) → Contains edges edge → IsEdgeInto problem groups g h edge
  pub differ : ActDifferently problem edges
  pub all : (edge : Edge) → IsEdgeInto problem groups g h edge → (other : Edge) × Contains edges other × ActsAlike (act_of problem edge) (act_of problem other)

-- whether the link joins the routers at these places
abbrev pub joins : ℕ → ℕ → Link → Bool
joins low high link = nat_eq link.low low && nat_eq link.high high

-- Between the routers that stand for two groups, the network that is read back has as many links as the
-- problem has different acts from one group into the other, in the direction that has more of them.
pub record HasLinksForActs (problem : Problem) (groups : List ℕ) (read : Network) (low high : ℕ) : Type 0 where
  pub into_low : List Edge
  pub into_high : List Edge
  pub acts_into_low : HasOneOfEachAct problem groups low high into_low
  pub acts_into_high : HasOneOfEachAct problem groups high low into_high
  pub links : length (filter (joins low high) (links_of read)) ≡ max (length into_low) (length into_high)
