-- Edges that stand for directions of links.
use Rattle.std.specs.Prelude.{ℕ, List, [], ◌∷◌, ◌⊎◌}
use Rattle.base_kit.specs.declared.act_graph.Edge.{Edge}
use Rattle.srp_build.specs.declared.hops.Hop.{Hop}

-- the edge of a direction, with that act
abbrev pub edge_with : ℕ → Hop → Edge
edge_with act hop = record { importer = hop.importer; exporter = hop.exporter; act = act; link = hop.link }

-- The edges of the directions, in order: a direction has one edge, or is left out.
abbrev pub AreEdgesOf : (Hop → Edge → Type 0) → (Hop → Type 0) → List Hop → List Edge → Type 0
AreEdgesOf HasEdge IsLeft [] [] = Unit {0}
AreEdgesOf HasEdge IsLeft [] (edge ∷ edges) = ⊥
AreEdgesOf HasEdge IsLeft (hop ∷ hops) [] = IsLeft hop × AreEdgesOf HasEdge IsLeft hops []
AreEdgesOf HasEdge IsLeft (hop ∷ hops) (edge ∷ edges) = (HasEdge hop edge × AreEdgesOf HasEdge IsLeft hops edges)
    ⊎ (IsLeft hop × AreEdgesOf HasEdge IsLeft hops (edge ∷ edges))
