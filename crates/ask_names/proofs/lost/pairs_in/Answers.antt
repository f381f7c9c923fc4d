use Rattle.std.proofs.Common.{◌||◌, Bool, ap, ◌∙◌, take_all}
use Rattle.std.specs.List.{list_any}
use Rattle.ask_names.specs.Routers.{names_pair}
use Rattle.ask_names.proofs.Items.{any_next}
use Rattle.ask_names.proofs.lost.pairs_in.Goals as goal

pub loop-item-init : goal.loop-item-init
loop-item-init c = c.new-pairs.ensures

pub loop-item-preserved : goal.loop-item-preserved
loop-item-preserved c = λ first second.
    c.in_ok-put_pair.ensures first second
    ∙ ap (λ (b : Bool). b || names_pair first second c.item-item.result) (c.loop-item.invariant first second)
    ∙ any_next (names_pair first second) c.args.items.now c.loop-item.item-index c.item-item.result c.loop-item-test.true c.item-item.is

pub returns : goal.returns
returns c = λ first second.
    c.loop-item.invariant first second
    ∙ ap (list_any (names_pair first second)) (take_all c.loop-item.item-index c.args.items.now c.loop-item-test.false)
