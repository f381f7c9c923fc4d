use Rattle.std.proofs.Common.{None, get_or}
use Rattle.std.proofs.lemmas.List.{get_or_default}
use Rattle.abstract_net.specs.declared.qlink.QLink.{QLink}
use Rattle.solution_lift.proofs.LastSides.{last_more}
use Rattle.solution_lift.proofs.edges.lasts_of.Goals as goal

pub loop-link-preserved : goal.loop-link-preserved
loop-link-preserved c = λ g h.
    let none : QLink = record { low = 0; high = 0; to_low = None; to_high = None } in
    let links = c.args.links.now in
    let i = c.loop-link.link-index in
    let l = get_or links i none in
    let inside = c.loop-link-test.true in
    last_more links i l g h _ _ _ inside (get_or_default links i none l inside) (c.requires i none inside) (c.loop-link.invariant g h)
    (c.in_ok-keep.ensures g h) (c.in_ok-keep-2.ensures g h)
