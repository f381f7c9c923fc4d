use Rattle.std.proofs.Common.{List, ℕ, ◌∙◌, cond, ap, sym}
use Rattle.srp_core.specs.Quotient.{first_number}
use Rattle.config_emit.specs.BgpSteps.{first_among}
use Rattle.config_emit.specs.Sources.{plan_of}
use Rattle.config_emit.proofs.AsNumbers.{first_is_among}
use Rattle.config_emit.proofs.as_numbers.number_of_group.Goals as goal

pub returns-then-is_used : goal.returns-then-is_used
returns-then-is_used c =
    let e = plan_of c.args.source.now in
    let g = c.args.group in
    c.first_among.ensures
    ∙ ap (λ (ns : List ℕ). first_among ns c.members.result.now) c.numbers.ensures
    ∙ ap (first_among e.problem.numbers) c.members.ensures
    ∙ first_is_among e.problem.numbers e.groups g
    ∙ ap (λ b. cond b (first_number e.problem.numbers e.groups g) 0) (sym c.if-is_used.true ∙ c.is_used.ensures)
