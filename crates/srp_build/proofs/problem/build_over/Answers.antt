use Rattle.std.proofs.Common.{List, ◌∙◌, sym, subst}
use Rattle.base_kit.specs.declared.act_graph.Edge.{Edge}
use Rattle.srp_build.specs.Directions.{AreDirectionsOf, AreOfAdjacencies}
use Rattle.srp_build.proofs.problem.build_over.Goals as goal

pub problem_of_adjacencies-requires-clause-directions : goal.problem_of_adjacencies-requires-clause-directions
problem_of_adjacencies-requires-clause-directions c =
    let n = c.args.net.now.network in
    let numbered = c.in-OfAdjacencies.numbered in
    let of : AreOfAdjacencies n numbered = subst (AreDirectionsOf n) c.in-OfAdjacencies.is c.requires.directions in
    let edges_are = c.from_vec-edges.ensures ∙ (c.in_ok-edges-in-OfAdjacencies.ensures.items ∙ c.as_slice.ensures) in
    subst (λ (edges : List Edge). AreOfAdjacencies n (record { costs = numbered.costs; edges = edges })) (sym edges_are) of
