use Rattle.std.proofs.Common.{take}
use Rattle.std.specs.List.{AllByRecursion}
use Rattle.policy_dd.specs.Import.{HasAscendingChange}
use Rattle.policy_dd.proofs.session.read_changes.Given as goal

abbrev pub invariant-loop-entry : goal.invariant-loop-entry
invariant-loop-entry l = AllByRecursion HasAscendingChange (take l.entry-index l.entries)
