use Rattle.std.proofs.Common.{◌∙◌, ◌||◌, not, ap, length, nat_eq, sym}
use Rattle.std.specs.Prelude.{is_some}
use Rattle.std.specs.List.{list_any}
use Rattle.srp_core.specs.Problem.{initial}
use Rattle.srp_quotient.specs.Groups.{touches}
use Rattle.config_emit.specs.Sources.{plan_of}
use Rattle.config_emit.proofs.AsNumbers.{some_link}
use Rattle.config_emit.proofs.as_numbers.is_used.Goals as goal

pub links_of-links-requires : goal.links_of-links-requires
links_of-links-requires c = c.requires.links.links.has c.args.group c.requires.inside

pub returns-else-originates : goal.returns-else-originates
returns-else-originates c =
    let e = plan_of c.args.source.now in
    let none = ap (λ u. is_some (initial e.problem u)) (sym c.first_member-first.ensures) ∙ sym c.originates.ensures ∙ c.if-originates.false in
    ap not c.is_empty.ensures ∙ ap (λ xs. not (nat_eq (length xs) 0)) c.links_of-links.ensures
    ∙ some_link e c.args.group c.args.index.now c.requires.inside c.requires.links
    ∙ ap (λ b. b || list_any (touches c.args.group) e.links) (sym none)
