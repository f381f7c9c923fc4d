use Rattle.std.proofs.Common.{◌≡◌, ◌++◌, drop}
use Rattle.dest_classes.specs.Stretches.{left_of}
use Rattle.dest_classes.proofs.stretches.left_of.Given as goal

abbrev pub invariant-loop-entry : goal.invariant-loop-entry
invariant-loop-entry l = l.left.items ++ left_of l.first l.last (drop l.entry-index l.entries) ≡ left_of l.first l.last l.entries
