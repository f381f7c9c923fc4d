use Rattle.std.proofs.Common.{arith}
use Rattle.cfg_check.proofs.CommunityCounts.{before_first_line}
use Rattle.cfg_check.proofs.communities.first_exceeding.Goals as goal

pub loop-low-init : goal.loop-low-init
loop-low-init c = record {
  ordered = omega arith;
  few = omega (arith, before_first_line c.args.mentions.now);
  many = c.requires;
}
