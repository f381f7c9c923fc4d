use Rattle.std.proofs.Common.{◌∙◌, [], ◌∷◌, ◌++◌, ap}
use Rattle.srp_quotient.specs.Groups.{number_of_group}
use Rattle.config_emit.proofs.ListSteps.{pushed_turn}
use Rattle.config_emit.proofs.as_numbers.numbers_of_groups.Goals as goal

pub loop-group-preserved : goal.loop-group-preserved
loop-group-preserved c =
    let found = c.loop-group.numbers.items in
    let s = c.args.source.now in
    pushed_turn (number_of_group s.srp.now s.groups.now s.links.now) found c.push.new.self.items c.loop-group.group s.count c.loop-group-test.true
    (c.in_ok-push.ensures.items ∙ ap (λ x. found ++ x ∷ []) c.number_of_group.ensures)
    ∙ c.loop-group.invariant
