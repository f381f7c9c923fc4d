use Rattle.answer_solutions.proofs.Carried.{answers_lifted}
use Rattle.answer_solutions.proofs.carry.lifted.Goals as goal

pub printed-requires : goal.printed-requires
printed-requires c = c.in-Ok.ensures.stable.fitting

pub returns-in-Ok : goal.returns-in-Ok
returns-in-Ok c = answers_lifted c.printed.result c.args.sides.now c.args.lower.now c.in-Ok.labels c.in-Ok.ensures c.printed.ensures
