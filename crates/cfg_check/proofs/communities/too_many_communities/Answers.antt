use Rattle.std.proofs.Common.{sym, ◌∙◌}
use Rattle.cfg_check.proofs.CommunityCounts.{exceeding_is, none_exceeding, few_where}
use Rattle.cfg_check.proofs.communities.too_many_communities.Goals as goal

pub returns-then-not-branch : goal.returns-then-not-branch
returns-then-not-branch c = none_exceeding 1024 c.args.mentions.now c.last_line-last.result c.last_line-last.ensures
    (few_where _ 1024 (sym c.in_ok-exceeds.ensures ∙ c.if-not-branch.true))

pub returns : goal.returns
returns c = exceeding_is 1024 c.args.mentions.now c.in_ok-line.line c.in_ok-line.ensures.few c.in_ok-line.ensures.many
