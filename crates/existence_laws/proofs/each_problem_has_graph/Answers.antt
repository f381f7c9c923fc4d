use Rattle.existence_laws.proofs.Graphs.{each_problem_has_graph}
use Rattle.existence_laws.proofs.each_problem_has_graph.Goals as goal

pub returns : goal.returns
returns c = each_problem_has_graph
