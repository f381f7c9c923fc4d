use Rattle.std.proofs.Common.{◌≤◌, ◌<◌, ◌-◌}
use Rattle.cfg_check.specs.Communities.{count_before, count_up_to}
use Rattle.cfg_check.proofs.communities.first_exceeding.Given as goal

abbrev pub decreases-loop-low : goal.decreases-loop-low
decreases-loop-low l = l.high - l.low

abbrev pub invariant-loop-low : goal.invariant-loop-low
invariant-loop-low l = record {
  ordered : l.low ≤ l.high;
  few : count_before l.mentions l.low ≤ 1024;
  many : 1024 < count_up_to l.mentions l.high;
}
