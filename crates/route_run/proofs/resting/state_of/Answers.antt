use Rattle.route_run.proofs.KnownRests.{state_unknown}
use Rattle.route_run.proofs.resting.state_of.Goals as goal

pub returns-clause-state : goal.returns-clause-state
returns-clause-state c =
    state_unknown c.args.runner.now _ c.count.result c.requires (c.in_ok-rests.ensures.items_if_clones_equal (λ y h. h)) c.count.ensures.count
