use Rattle.std.proofs.Common.{◌≡◌, ◌++◌, take}
use Rattle.policy_dd.specs.Edge.{by_number}
use Rattle.canon_policy.specs.Made.{nodes_of}
use Rattle.canon_policy.proofs.others.push_outs.Given as goal

abbrev pub invariant-loop-case : goal.invariant-loop-case
invariant-loop-case l = l.nodes ≡ l.fn.nodes ++ nodes_of (by_number (take l.case-index l.cases))
