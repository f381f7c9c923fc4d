use Rattle.ask_classes.specs.Runs.{IsLinkRun}
use Rattle.ask_classes.specs.Tries.{WritesTrials}
use Rattle.ask_classes.proofs.Losses.{link_loss, link_left}
use Rattle.ask_classes.proofs.Trying.{losses_upto}
use Rattle.ask_classes.proofs.link_trials.put_link_trials.Given as goal

-- the first links were tried, and it is known where those of the last router begin
abbrev pub invariant-loop-place : goal.invariant-loop-place
invariant-loop-place l =
    WritesTrials l.asking.problems.now.whole.now l.asking.asks.now (losses_upto (link_loss l.asking) (link_left l.asking) l.asking.scene.now.links.now l.place)
    l.fn.bytes.items l.bytes.items l.tally
    × IsLinkRun l.asking.scene.now.links.now l.place l.run
