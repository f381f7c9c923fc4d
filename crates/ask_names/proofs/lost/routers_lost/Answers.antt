use Rattle.std.proofs.Common.{◌≡◌, ◌+◌, ◌++◌, drop, map, sym, subst, ap, ◌∙◌}
use Rattle.std.specs.List.{list_any}
use Rattle.cfg_ast.specs.declared.network.Router.{Router}
use Rattle.ask_names.specs.Routers.{is_router_lost}
use Rattle.ask_names.proofs.Loops.{step, done}
use Rattle.ask_names.proofs.Naming.{lost_of}
use Rattle.ask_names.proofs.lost.routers_lost.Goals as goal

pub loop-router-preserved : goal.loop-router-preserved
loop-router-preserved c =
    let f = λ (router : Router). list_any (is_router_lost router.name) c.args.items.now in
    subst (λ ms. ms ++ map f (drop (c.loop-router.router-index + 1) c.as_slice-routers.result.now) ≡ map f c.as_slice-routers.result.now)
    (sym c.in_ok-push.ensures.items)
    (step f c.as_slice-routers.result.now c.loop-router.router-index c.router-item.result c.loop-router.marks.items c.contains.result _
    c.loop-router-test.true c.router-item.is
    (c.contains.ensures ∙ c.in_ok-down.ensures _ ∙ ap (λ name. list_any (is_router_lost name) c.args.items.now) c.as_str.ensures)
    c.loop-router.invariant)

pub returns : goal.returns
returns c =
    let f = λ (router : Router). list_any (is_router_lost router.name) c.args.items.now in
    done f c.as_slice-routers.result.now c.loop-router.router-index c.loop-router.marks.items _ c.loop-router-test.false c.loop-router.invariant
    ∙ lost_of c.args.network.now c.as_slice-routers.result.now c.args.items.now c.as_slice-routers.ensures
