use Rattle.std.proofs.Common.{get_or}
use Rattle.cfg_ast.specs.declared.policy.Mention.{Mention}
use Rattle.std.proofs.lemmas.List.{get_or_default}
use Rattle.cfg_check.proofs.CommunityCounts.{last_turn}
use Rattle.cfg_check.proofs.communities.last_line.Goals as goal

pub loop-mention-preserved : goal.loop-mention-preserved
loop-mention-preserved c =
    let none : Mention = record { community = 0; line = 0 } in
    let ms = c.args.mentions.now in
    let i = c.loop-mention.mention-index in
    let m = get_or ms i none in
    let below = c.loop-mention-test.true in
    let here = get_or_default ms i none m below in
    last_turn ms i m c.loop-mention.last c.later-last.result below here c.later-last.ensures.first c.later-last.ensures.second c.loop-mention.invariant
