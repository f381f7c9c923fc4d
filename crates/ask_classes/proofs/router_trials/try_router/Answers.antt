use Rattle.std.proofs.Common.{◌≡◌, true, ap, sym, ◌∙◌, arith, List, Bool}
use Rattle.srp_core.specs.Without.{marked_down}
use Rattle.ask_names.specs.Networks.{names_of}
use Rattle.ask_names.specs.Routers.{name_at}
use Rattle.ask_classes.proofs.Losses.{router_loss, router_left}
use Rattle.ask_classes.proofs.Trying.{was_tried}
use Rattle.ask_classes.proofs.router_trials.try_router.Goals as goal

pub returns : goal.returns
returns c =
    let asking = c.args.asking.now in
    let name = name_at (names_of asking.scene.now.network.now) c.args.router in
    let loss = router_loss asking (c.args.router, name) in
    let test = c.if-is_marked.false in
    let is = c.is_marked.ensures in
    let left : router_left asking (c.args.router, name) ≡ true = grind (arith, test, is) in
    was_tried asking.problems.now.whole.now asking.asks.now (router_left asking (c.args.router, name)) loss c.in_ok-answer.answer c.args.bytes.now.items
    c.put_trial.new.bytes.items c.args.tally c.with.result left
    (c.in_ok-answer.ensures loss (ap (λ (l : List Bool). marked_down l asking.scene.now.links_down.now) (sym (c.deref.ensures.value ∙ c.in_ok-more.ensures))))
    c.in_ok-put_trial.ensures c.with.ensures
