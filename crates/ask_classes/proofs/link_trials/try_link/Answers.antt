use Rattle.std.proofs.Common.{◌≡◌, true, refl, arith}
use Rattle.ask_classes.proofs.Losses.{link_loss, link_left}
use Rattle.ask_classes.proofs.Trying.{was_tried}
use Rattle.ask_classes.proofs.link_trials.try_link.Goals as goal

pub returns : goal.returns
returns c =
    let asking = c.args.asking.now in
    let loss = link_loss asking (c.args.place, c.args.link) in
    let test = c.if-not-is_link_left.false in
    let is = c.is_link_left.ensures in
    let left : link_left asking (c.args.place, c.args.link) ≡ true = grind (arith, test, is) in
    was_tried asking.problems.now.whole.now asking.asks.now (link_left asking (c.args.place, c.args.link)) loss c.in_ok-answer.answer c.args.bytes.now.items
    c.put_trial.new.bytes.items c.args.tally c.with.result left (c.in_ok-answer.ensures loss refl) c.in_ok-put_trial.ensures c.with.ensures
