use Rattle.config_emit.proofs.Sides.{noted}
use Rattle.config_emit.proofs.act_links.note_sides.Goals as goal

pub returns : goal.returns
returns c = noted c.args.last.now c.insert.new.self c.args.link.now c.filled_sides-sides.result c.in_ok-insert.ensures.updates.0 c.filled_sides-sides.ensures
