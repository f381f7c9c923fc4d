use Rattle.std.proofs.Common.{◌<◌, arith}
use Rattle.ask_classes.specs.Failing.{link_losses}
use Rattle.ask_classes.proofs.Losses.{link_loss, link_left}
use Rattle.ask_classes.proofs.Trying.{none_tried, item_tried, all_tried, tried_few, failed_few, tied_few}
use Rattle.ask_classes.proofs.link_trials.put_link_trials.Goals as goal

pub loop-place-init : goal.loop-place-init
loop-place-init c = (
  none_tried c.args.asking.now.problems.now.whole.now c.args.asking.now.asks.now c.args.bytes.now.items c.none-tally.result c.none-tally.ensures,
  c.none-run.ensures c.args.asking.now.scene.now.links.now,
)

pub with-run-requires-clause-run : goal.with-run-requires-clause-run
with-run-requires-clause-run c = c.loop-place.invariant.1

pub try_link-requires-clause-run : goal.try_link-requires-clause-run
try_link-requires-clause-run c = c.with-run.ensures

pub try_link-requires-clause-tried : goal.try_link-requires-clause-tried
try_link-requires-clause-tried c =
    let asking = c.args.asking.now in
    let few = tried_few asking.problems.now.whole.now asking.asks.now (link_loss asking) (link_left asking) asking.scene.now.links.now c.loop-place.place
    c.args.bytes.now.items c.loop-place.bytes.items c.loop-place.tally c.loop-place-test.true c.loop-place.invariant.0 in
    let less = c.loop-place-test.true in
    let many = c.requires.asking.scene.few_links in
    let bound : c.loop-place.tally.tried < 4294967296 = omega (arith, few, less, many) in
    bound

pub try_link-requires-clause-failed : goal.try_link-requires-clause-failed
try_link-requires-clause-failed c = failed_few c.loop-place.invariant.0.trials c.loop-place.tally c.loop-place.invariant.0.counted

pub try_link-requires-clause-tied : goal.try_link-requires-clause-tied
try_link-requires-clause-tied c = tied_few c.loop-place.invariant.0.trials c.loop-place.tally c.loop-place.invariant.0.counted

pub loop-place-preserved : goal.loop-place-preserved
loop-place-preserved c =
    let asking = c.args.asking.now in (
      item_tried asking.problems.now.whole.now asking.asks.now (link_loss asking) (link_left asking) asking.scene.now.links.now c.loop-place.place _
          c.args.bytes.now.items c.loop-place.bytes.items c.try_link.new.bytes.items c.loop-place.tally c.in_ok-tally.tally c.loop-place-test.true
          c.loop-place.invariant.0 c.in_ok-tally.ensures,
      c.with-run.ensures,
    )

pub returns : goal.returns
unfolding link_losses
returns c =
    let asking = c.args.asking.now in
    all_tried asking.problems.now.whole.now asking.asks.now (link_loss asking) (link_left asking) asking.scene.now.links.now c.loop-place.place
    c.args.bytes.now.items c.loop-place.bytes.items c.loop-place.tally c.loop-place-test.false c.loop-place.invariant.0
