use Rattle.answer_kit.proofs.NamesApart.{problem_apart}
use Rattle.answer_solutions.proofs.class_solution.answer_of_solution.Goals as goal

pub answer_of_problem-requires : goal.answer_of_problem-requires
answer_of_problem-requires g c = problem_apart c.args.checked.now.network c.args.checked.now.faultless c.args.class.now c.requires c.in-Ok.problem
    c.in-Ok.ensures.of
