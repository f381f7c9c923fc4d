use Rattle.carried_laws.proofs.Carried.{lift_takes}
use Rattle.carried_laws.proofs.lift_takes_compressed.Goals as goal

pub returns : goal.returns
returns c = lift_takes c.lift_is_read_back.ensures c.built_problem_is_one.ensures c.text_has_problem_of_groups.ensures
