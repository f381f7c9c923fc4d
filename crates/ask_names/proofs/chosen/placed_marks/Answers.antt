use Rattle.std.proofs.Common.{◌≡◌, ◌+◌, ◌++◌, drop, map, sym, subst, ap, ◌∙◌}
use Rattle.std.specs.Option.{is_some}
use Rattle.cfg_ast.specs.declared.network.Router.{Router}
use Rattle.numbered_names.specs.NamePlaces.{place_in}
use Rattle.ask_words.specs.NameLists.{is_among}
use Rattle.ask_names.proofs.Loops.{step, done}
use Rattle.ask_names.proofs.Names.{placed_name}
use Rattle.ask_names.proofs.Naming.{placed_of}
use Rattle.ask_names.proofs.chosen.placed_marks.Goals as goal

pub loop-router-preserved : goal.loop-router-preserved
loop-router-preserved c =
    let names = c.args.names.now in
    let f = λ (router : Router). is_among names router.name in
    subst (λ ms. ms ++ map f (drop (c.loop-router.router-index + 1) c.as_slice-routers.result.now) ≡ map f c.as_slice-routers.result.now)
    (sym c.in_ok-push.ensures.items)
    (step f c.as_slice-routers.result.now c.loop-router.router-index c.router-item.result c.loop-router.marks.items c.is_some.result _
    c.loop-router-test.true c.router-item.is
    (c.is_some.ensures ∙ ap is_some (c.place_of.ensures ∙ ap (place_in c.in_ok-places.places) c.as_str.ensures)
    ∙ placed_name c.in_ok-places.places c.as_slice.result.now c.router-item.result.name c.in_ok-places.ensures
    ∙ ap (λ ns. is_among ns c.router-item.result.name) c.as_slice.ensures) c.loop-router.invariant)

pub returns : goal.returns
returns c =
    let f = λ (router : Router). is_among c.args.names.now router.name in
    done f c.as_slice-routers.result.now c.loop-router.router-index c.loop-router.marks.items _ c.loop-router-test.false c.loop-router.invariant
    ∙ placed_of c.args.network.now c.as_slice-routers.result.now c.args.names.now c.as_slice-routers.ensures
