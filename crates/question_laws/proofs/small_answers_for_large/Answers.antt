use Rattle.question_laws.proofs.SmallVerdicts.{one_verdict}
use Rattle.question_laws.proofs.small_answers_for_large.Goals as goal

pub returns : goal.returns
returns c = λ problem small groups asked q is whole.
    one_verdict problem small groups asked q is whole
    (λ labels st. c.to_quotient.ensures problem small groups labels q.rules q.small_rules q.admissible q.quotient st)
    (λ lower st. c.from_quotient.ensures problem small groups lower q.rules q.small_rules q.admissible q.quotient st)
