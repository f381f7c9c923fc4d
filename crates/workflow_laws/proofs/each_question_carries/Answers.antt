use Rattle.workflow_laws.proofs.Asked.{each_question_carries}
use Rattle.workflow_laws.proofs.each_question_carries.Goals as goal

pub returns : goal.returns
returns g c = each_question_carries g.Q.AsksOfGroups.asks c.small_answers_for_large.ensures c.group_question_carries.ensures
