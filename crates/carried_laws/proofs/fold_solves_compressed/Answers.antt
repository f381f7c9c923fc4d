use Rattle.carried_laws.proofs.Carried.{fold_solves}
use Rattle.carried_laws.proofs.fold_solves_compressed.Goals as goal

pub returns : goal.returns
returns c = fold_solves c.fold_is_read_back.ensures c.built_problem_is_one.ensures c.text_has_problem_of_groups.ensures
