use Rattle.answer_solutions.proofs.Carried.{answers_folded}
use Rattle.answer_solutions.proofs.carry.folded.Goals as goal

pub printed-requires : goal.printed-requires
printed-requires c = c.in-Ok.ensures.stable.fitting

pub returns-in-Ok : goal.returns-in-Ok
returns-in-Ok c = answers_folded c.printed.result c.args.sides.now c.args.labels.now c.in-Ok.lower c.in-Ok.ensures c.printed.ensures
