use Rattle.std.proofs.Common.{subst}
use Rattle.srp_core.specs.Problem.{Problem}
use Rattle.srp_core.specs.Stability.{IsStable}
use Rattle.solution_check.specs.Breaks.{Judges}
use Rattle.answer_solutions.specs.Carries.{IsCarriedBy}
use Rattle.answer_solutions.proofs.Carried.{answers_stable, answers_broken}
use Rattle.answer_solutions.proofs.carry.answer_of_labels.Goals as goal

pub carried-requires-clause-stable : goal.carried-requires-clause-stable
carried-requires-clause-stable c =
    subst (λ (P : Problem). IsStable P c.args.labels.now) c.requires.from
    (subst (Judges c.args.problem.now c.args.labels.now) c.in-Ok-Stable.field-0-is c.in-Ok-Stable.ensures)

pub returns-in-Ok-Stable : goal.returns-in-Ok-Stable
returns-in-Ok-Stable c = answers_stable c.carried.result c.args.problem.now c.args.labels.now (IsCarriedBy c.args.way c.args.sides.now c.args.labels.now)
    c.requires.labels (subst (Judges c.args.problem.now c.args.labels.now) c.in-Ok-Stable.field-0-is c.in-Ok-Stable.ensures) c.carried.ensures

pub returns-in-Ok-Not : goal.returns-in-Ok-Not
returns-in-Ok-Not c = answers_broken c.broken.result c.args.problem.now c.args.labels.now (IsCarriedBy c.args.way c.args.sides.now c.args.labels.now)
    c.in-Ok-Not.router c.in-Ok-Not.why c.requires.labels (subst (Judges c.args.problem.now c.args.labels.now) c.in-Ok-Not.field-0-is c.in-Ok-Not.ensures)
    c.broken.ensures
