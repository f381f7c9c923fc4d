use Rattle.std.proofs.Common.{◌≡◌, take}
use Rattle.policy_dd.specs.Edge.{by_number}
use Rattle.policy_dd.proofs.join.communities.Given as goal

abbrev pub invariant-loop-case : goal.invariant-loop-case
invariant-loop-case l = by_number l.named ≡ take l.case-index l.cases
