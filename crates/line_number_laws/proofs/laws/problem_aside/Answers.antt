use Rattle.line_number_laws.proofs.Problem as problem
use Rattle.line_number_laws.proofs.laws.problem_aside.Goals as goal

pub returns : goal.returns
returns c = problem.aside
