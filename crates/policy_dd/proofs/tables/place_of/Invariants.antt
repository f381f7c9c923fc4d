use Rattle.std.proofs.Common.{◌≡◌, ◌+◌, drop}
use Rattle.policy_dd.specs.Tables.{keys_below}
use Rattle.policy_dd.proofs.tables.place_of.Given as goal

abbrev pub invariant-loop-place : goal.invariant-loop-place
invariant-loop-place l = keys_below l.key l.cases ≡ l.place + keys_below l.key (drop l.place l.cases)
