use Rattle.std.proofs.Common.{◌+◌, get_or, arith}
use Rattle.cfg_ast.specs.declared.policy.Mention.{Mention}
use Rattle.std.proofs.lemmas.List.{get_or_default}
use Rattle.cfg_check.proofs.CommunityCounts.{next_seen, too_many_seen}
use Rattle.cfg_check.proofs.communities.exceeds.Goals as goal

pub returns-then-len-gt-MOST_COMMUNITIES : goal.returns-then-len-gt-MOST_COMMUNITIES
returns-then-len-gt-MOST_COMMUNITIES c =
    let none : Mention = record { community = 0; line = 0 } in
    let ms = c.args.mentions.now in
    let i = c.loop-mention.mention-index in
    let m = get_or ms i none in
    let below = c.loop-mention-test.true in
    let here = get_or_default ms i none m below in
    let seen = next_seen ms c.args.line i m c.loop-mention.seen c.keep_up_to.new.seen below here c.in_ok-keep_up_to.ensures c.loop-mention.invariant.seen in
    too_many_seen ms (i + 1) c.args.line 1024 c.keep_up_to.new.seen seen (omega (arith, c.len.ensures.len, c.if-len-gt-MOST_COMMUNITIES.true))

pub loop-mention-preserved : goal.loop-mention-preserved
loop-mention-preserved c =
    let none : Mention = record { community = 0; line = 0 } in
    let ms = c.args.mentions.now in
    let i = c.loop-mention.mention-index in
    let m = get_or ms i none in
    let below = c.loop-mention-test.true in
    let here = get_or_default ms i none m below in
    record {
      seen = next_seen ms c.args.line i m c.loop-mention.seen c.keep_up_to.new.seen below here c.in_ok-keep_up_to.ensures c.loop-mention.invariant.seen;
      few = omega (arith, c.len.ensures.len, c.if-len-gt-MOST_COMMUNITIES.false);
    }
