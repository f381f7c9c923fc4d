use Rattle.std.proofs.Common.{◌≡◌, ◌||◌, ℕ, take}
use Rattle.base_kit.specs.Sets.{has}
use Rattle.policy_dd.specs.Edge.{keys_of}
use Rattle.policy_dd.proofs.tables.with_keys.Given as goal

abbrev pub invariant-loop-case : goal.invariant-loop-case
invariant-loop-case l = (k : ℕ) → has l.set k ≡ has l.fn.set k || has (keys_of (take l.case-index l.cases)) k
