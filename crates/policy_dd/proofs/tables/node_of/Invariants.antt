use Rattle.std.proofs.Common.{◌≡◌, drop}
use Rattle.policy_dd.specs.Tables.{node_at}
use Rattle.policy_dd.proofs.tables.node_of.Given as goal

abbrev pub invariant-loop-k : goal.invariant-loop-k
invariant-loop-k l = node_at (drop l.k-index l.cases) l.key ≡ node_at l.cases l.key
