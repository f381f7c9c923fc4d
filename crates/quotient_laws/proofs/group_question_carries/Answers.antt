use Rattle.quotient_laws.proofs.Pictures.{picture_question_carries}
use Rattle.quotient_laws.proofs.group_question_carries.Goals as goal

pub returns : goal.returns
returns g c = λ problem small groups q.
    picture_question_carries problem small groups (c.pictures_agree.ensures problem small groups q) g.Q.AsksOfGroups.asks g.Q.AsksOfGroups.one_answer
