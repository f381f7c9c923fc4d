mod OneEdges
pub mod OneProblem
