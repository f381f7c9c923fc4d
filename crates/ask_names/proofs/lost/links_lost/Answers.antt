use Rattle.std.proofs.Common.{◌≡◌, ◌+◌, ◌++◌, drop, map, sym, subst}
use Rattle.std.specs.List.{list_any}
use Rattle.cfg_ast.specs.declared.topology.Link.{Link}
use Rattle.ask_names.specs.Networks.{names_of}
use Rattle.ask_names.specs.Routers.{is_link_lost}
use Rattle.ask_names.proofs.Loops.{step_at}
use Rattle.ask_names.proofs.lost.links_lost.Goals as goal

pub loop-link-preserved : goal.loop-link-preserved
loop-link-preserved c =
    let f = λ (link : Link). list_any (is_link_lost (names_of c.args.network.now) link) c.args.items.now in (
      c.loop-link.invariant.0,
      subst (λ ms. ms ++ map f (drop (c.loop-link.link-index + 1) c.args.links.now) ≡ map f c.args.links.now) (sym c.in_ok-push.ensures.items)
          (step_at f c.args.links.now c.loop-link.link-index _ c.loop-link.marks.items c.has.result _ c.loop-link-test.true
          (c.has.ensures c.args.items.now c.loop-link.invariant.0) c.loop-link.invariant.1),
    )
