use Rattle.std.proofs.Common.{None, get_or, ◌∙◌}
use Rattle.std.proofs.lemmas.List.{get_or_default}
use Rattle.abstract_net.specs.declared.qlink.QLink.{QLink}
use Rattle.solution_lift.proofs.Directions.{link_more}
use Rattle.solution_lift.proofs.LastSides.{stands_low, stands_high}
use Rattle.solution_lift.proofs.edges.directions.Goals as goal

pub loop-place-preserved : goal.loop-place-preserved
loop-place-preserved c =
    let none : QLink = record { low = 0; high = 0; to_low = None; to_high = None } in
    let links = c.args.links.now in
    let i = c.loop-place.place in
    let l = get_or links i none in
    let inside = c.loop-place-test.true in
    let less = c.requires.apart i none inside in
    link_more c.args.protocol c.args.edges.now links _ _ _ _ i l _ _ inside (get_or_default links i none l inside) c.loop-place.invariant
    c.in_ok-push_direction.ensures (c.standing-to_low.ensures ∙ stands_low c.args.protocol links l _ c.requires.apart less (c.in_ok-lasts.ensures l.low l.high))
    c.in_ok-push_direction-2.ensures (c.standing-to_high.ensures
    ∙ stands_high c.args.protocol links l _ c.requires.apart less (c.in_ok-lasts.ensures l.high l.low))
