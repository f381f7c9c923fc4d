use Rattle.std.proofs.Common.{◌∙◌, [], ◌∷◌, ◌++◌, ap, map}
use Rattle.std.specs.Prelude.{slice_index_or}
use Rattle.base_kit.specs.Partition.{members_of}
use Rattle.config_emit.proofs.ListSteps.{pushed_turn}
use Rattle.config_emit.proofs.groups.member_names.Goals as goal

pub loop-group-preserved : goal.loop-group-preserved
loop-group-preserved c =
    let found = c.loop-group.found in
    let pushed = c.in_ok-push.ensures.ok ∙ ap (λ x. found ++ x ∷ [])
    (c.in_ok-names_at.ensures ∙ ap (map (λ u. slice_index_or c.args.names.now u [])) c.members.ensures) in
    pushed_turn (λ g. map (λ u. slice_index_or c.args.names.now u []) (members_of c.args.groups.now g)) found c.push.new.self c.loop-group.group c.args.count
    c.loop-group-test.true pushed
    ∙ c.loop-group.invariant
