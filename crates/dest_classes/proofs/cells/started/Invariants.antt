use Rattle.std.proofs.Common.{◌≡◌, ◌++◌, map}
use Rattle.dest_classes.specs.Cells.{started}
use Rattle.dest_classes.proofs.cells.started.Given as goal

abbrev pub invariant-loop-prefix : goal.invariant-loop-prefix
invariant-loop-prefix l = l.members.items ++ map started l.prefix-iterator ≡ map started l.fn.originators.entries
