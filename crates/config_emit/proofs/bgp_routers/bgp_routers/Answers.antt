use Rattle.std.proofs.Common.{◌∙◌, [], ◌∷◌, ◌++◌, ap}
use Rattle.config_emit.specs.Emitted.{emitted_router}
use Rattle.config_emit.specs.Sources.{plan_of}
use Rattle.config_emit.proofs.ListSteps.{pushed_turn}
use Rattle.config_emit.proofs.bgp_routers.bgp_routers.Goals as goal

pub loop-group-preserved : goal.loop-group-preserved
loop-group-preserved c =
    let found = c.loop-group.routers in
    pushed_turn (emitted_router (plan_of c.args.source.now)) found c.push.new.self c.loop-group.group c.args.source.now.count c.loop-group-test.true
    (c.in_ok-push.ensures.ok ∙ ap (λ x. found ++ x ∷ []) c.in_ok-bgp_router.ensures)
    ∙ c.loop-group.invariant
