use Rattle.cfg_check.proofs.CommunityCounts.{put_up_to}
use Rattle.cfg_check.proofs.communities.keep_up_to.Goals as goal

pub returns-in_ok-insert : goal.returns-in_ok-insert
returns-in_ok-insert c = put_up_to c.args.line c.args.mention c.args.seen.now c.insert.new.self c.in_ok-insert.field-0 c.if-mention-line.true
    c.in_ok-insert.ensures.updates c.in_ok-insert.ensures.added c.in_ok-insert.ensures.len
