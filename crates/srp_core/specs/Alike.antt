-- Two problems are alike if they differ only in the acts of their edges, and edges at one place act
-- alike. A network and a prefix determine the problem up to this.
use Rattle.std.specs.Prelude.{◌≡◌, List, [], ◌∷◌}
use Rattle.base_kit.specs.declared.act_graph.Edge.{Edge}
use Rattle.srp_core.specs.Acts.{ActsAlike}
use Rattle.srp_core.specs.Problem.{Problem, act_of}

-- edges of two problems, at one place of a link, that act alike
pub record EdgesAlike (first second : Problem) (edge other : Edge) : Type 0 where
  pub importer : edge.importer ≡ other.importer
  pub exporter : edge.exporter ≡ other.exporter
  pub link : edge.link ≡ other.link
  pub acts : ActsAlike (act_of first edge) (act_of second other)

-- the edges of two lists, one by one
abbrev pub AllEdgesAlike : Problem → Problem → List Edge → List Edge → Type 0
AllEdgesAlike first second [] [] = Unit {0}
AllEdgesAlike first second [] (other ∷ others) = ⊥
AllEdgesAlike first second (edge ∷ edges) [] = ⊥
AllEdgesAlike first second (edge ∷ edges) (other ∷ others) = EdgesAlike first second edge other × AllEdgesAlike first second edges others

-- the same routers, and edges that act alike
pub record ProblemsAlike (first second : Problem) : Type 0 where
  pub protocol : first.protocol ≡ second.protocol
  pub names : first.names ≡ second.names
  pub numbers : first.numbers ≡ second.numbers
  pub init : first.init ≡ second.init
  pub lone : first.lone ≡ second.lone
  pub edges : AllEdgesAlike first second first.edges second.edges
