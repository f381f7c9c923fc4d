use Rattle.ask_classes.specs.Tries.{WritesTrials}
use Rattle.ask_names.specs.Networks.{names_of}
use Rattle.ask_classes.proofs.Losses.{router_loss, router_left}
use Rattle.ask_classes.proofs.Trying.{losses_upto}
use Rattle.ask_classes.proofs.router_trials.put_router_trials.Given as goal

-- the first routers were tried
abbrev pub invariant-loop-place : goal.invariant-loop-place
invariant-loop-place l =
    WritesTrials l.asking.problems.now.whole.now l.asking.asks.now
    (losses_upto (router_loss l.asking) (router_left l.asking) (names_of l.asking.scene.now.network.now) l.place)
    l.fn.bytes.items l.bytes.items l.tally
