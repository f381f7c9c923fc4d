use Rattle.srp_core.specs.Without.{marked_down}
use Rattle.ask_classes.proofs.Losses.{asked_of_left}
use Rattle.ask_classes.proofs.asking.Asking.without.Goals as goal

pub solved-requires : goal.solved-requires
solved-requires c =
    let asking = c.args.self.now in
    let whole = asking.problems.now.whole.now in
    let down = marked_down c.args.routers.now c.args.links.now in
    asked_of_left whole c.in_ok-other.other down down asking.asks.now c.in_ok-question.question c.in_ok-other.ensures
    (c.in_ok-question.ensures whole.names c.args.links.now c.requires.marks)
