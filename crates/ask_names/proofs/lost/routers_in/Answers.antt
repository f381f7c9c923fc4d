use Rattle.std.proofs.Common.{◌||◌, Bool, ap, ◌∙◌, take_all}
use Rattle.std.specs.List.{list_any}
use Rattle.ask_names.specs.Routers.{is_router_lost}
use Rattle.ask_names.proofs.Items.{any_next}
use Rattle.ask_names.proofs.lost.routers_in.Goals as goal

pub loop-item-init : goal.loop-item-init
loop-item-init c = c.new-routers.ensures

pub loop-item-preserved : goal.loop-item-preserved
loop-item-preserved c = λ name.
    c.in_ok-put_router.ensures name
    ∙ ap (λ (b : Bool). b || is_router_lost name c.item-item.result) (c.loop-item.invariant name)
    ∙ any_next (is_router_lost name) c.args.items.now c.loop-item.item-index c.item-item.result c.loop-item-test.true c.item-item.is

pub returns : goal.returns
returns c = λ name.
    c.loop-item.invariant name
    ∙ ap (list_any (is_router_lost name)) (take_all c.loop-item.item-index c.args.items.now c.loop-item-test.false)
