use Rattle.std.proofs.Common.{sym, subst}
use Rattle.srp_core.specs.Without.{marked_down}
use Rattle.solution_answers.specs.Verdicts.{is_yes}
use Rattle.solution_answers.specs.Writing.{Writes}
use Rattle.ask_classes.specs.Failing.{IsFailingPart, router_losses}
use Rattle.ask_classes.proofs.Parts.{failing_written}
use Rattle.ask_classes.proofs.class_parts.put_failing_routers.Goals as goal

pub returns : goal.returns
returns c =
    let asking = c.args.asking.now in
    let whole = asking.problems.now.whole.now in
    let routers = asking.scene.now.routers_down.now in
    let links = asking.scene.now.links_down.now in
    let losses = router_losses whole.names routers links in
    let down = marked_down routers links in
    let number = asking.problems.now.number in
    let left = asking.problems.now.left.now in
    let old = c.args.bytes.now.items in
    subst (Writes (IsFailingPart asking.asks.now number whole down losses left) old c.put_tally.new.bytes.items) (sym c.are_yes.ensures)
    (failing_written asking.asks.now number whole down losses left old c.put_answer.new.bytes.items c.put_router_trials.new.bytes.items
    c.put_tally.new.bytes.items
    (is_yes c.in_ok-verdict.verdict) c.in_ok-none_failed.none_failed c.in_ok-tally.tally c.requires.scene.left.names c.in_ok-verdict.ensures.written
    c.in_ok-tally.ensures
    c.in_ok-none_failed.ensures.bytes c.in_ok-none_failed.ensures.none)
