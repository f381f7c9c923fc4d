use Rattle.std.proofs.Common.{◌∙◌, sym}
use Rattle.ask_answers.proofs.Left.{whole_left}
use Rattle.ask_answers.proofs.class_parts.left_of.Goals as goal

pub returns-then-not-is_any_down : goal.returns-then-not-is_any_down
returns-then-not-is_any_down c =
    whole_left c.args.known.now.whole c.count-counted.ensures.rules c.args.routers.now c.args.links.now (sym c.is_any_down.ensures ∙ c.if-not-is_any_down.true)
