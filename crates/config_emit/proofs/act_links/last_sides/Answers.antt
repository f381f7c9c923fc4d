use Rattle.std.proofs.Common.{None, get_or}
use Rattle.std.proofs.lemmas.List.{get_or_default}
use Rattle.abstract_net.specs.declared.qlink.QLink.{QLink}
use Rattle.config_emit.proofs.Sides.{last_turn}
use Rattle.config_emit.proofs.act_links.last_sides.Goals as goal

pub loop-link-preserved : goal.loop-link-preserved
loop-link-preserved c =
    let none : QLink = record { low = 0; high = 0; to_low = None; to_high = None } in
    let x = get_or c.args.links.now c.loop-link.link-index none in
    last_turn c.loop-link.last c.note_sides.new.last c.args.links.now c.loop-link.link-index x c.loop-link-test.true
    (get_or_default c.args.links.now c.loop-link.link-index none x c.loop-link-test.true) c.in_ok-note_sides.ensures c.loop-link.invariant
