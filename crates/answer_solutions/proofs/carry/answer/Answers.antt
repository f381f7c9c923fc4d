use Rattle.std.proofs.Common.{sym, subst}
use Rattle.base_kit.specs.Names.{AreApart}
use Rattle.srp_core.specs.Problem.{Problem}
use Rattle.answer_solutions.proofs.OneCarry.{quotient_of}
use Rattle.answer_solutions.proofs.SidesApart.{carried_apart}
use Rattle.answer_solutions.proofs.Carried.{answers_carry_of}
use Rattle.answer_solutions.proofs.carry.answer.Goals as goal

pub answer_of_sides-requires-clause-apart : goal.answer_of_sides-requires-clause-apart
answer_of_sides-requires-clause-apart g c =
    let apart = carried_apart c.args.checked.now.network c.args.checked.now.faultless c.args.class.now c.requires c.in-Ok.sides c.in-Ok.ensures c.args.way in
    subst (λ (P : Problem). AreApart P.names) (sym c.carried_from-problem.ensures) apart

pub answer_of_sides-requires-clause-groups : goal.answer_of_sides-requires-clause-groups
answer_of_sides-requires-clause-groups g c = c.in-Ok.ensures.coarsest.admissible

pub answer_of_sides-requires-clause-quotient : goal.answer_of_sides-requires-clause-quotient
answer_of_sides-requires-clause-quotient g c =
    quotient_of c.args.checked.now.network c.args.class.now c.requires c.quotient_is_quotient.ensures c.in-Ok.sides c.in-Ok.ensures

pub returns-in-Ok-clause-answers : goal.returns-in-Ok-clause-answers
returns-in-Ok-clause-answers g c =
    answers_carry_of c.args.way c.args.checked.now.network c.args.class.now c.in-Ok.sides c.in-Ok.ensures _ c.carried_from-problem.ensures _
    c.answer_of_sides.result _ c.answer_of_sides.ensures.answers
