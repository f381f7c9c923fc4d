use Rattle.std.proofs.Common.{◌≡◌, ◌++◌, take}
use Rattle.canon_policy.specs.Made.{carried_nodes}
use Rattle.canon_policy.proofs.canonical.push_carried.Given as goal

abbrev pub invariant-loop-case : goal.invariant-loop-case
invariant-loop-case l = l.parts ≡ l.fn.parts ++ carried_nodes (take l.case-index l.outs)
