use Rattle.std.proofs.Common.{◌≡◌, ◌++◌, take}
use Rattle.canon_policy.specs.Made.{nodes_of}
use Rattle.canon_policy.proofs.others.push_lps.Given as goal

abbrev pub invariant-loop-case : goal.invariant-loop-case
invariant-loop-case l = l.nodes ≡ l.fn.nodes ++ nodes_of (take l.case-index l.cases)
