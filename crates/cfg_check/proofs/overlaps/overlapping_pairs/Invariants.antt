use Rattle.std.proofs.Common.{◌≡◌, take, map}
use Rattle.cfg_ast.specs.meaning.RouterFaults.{address_line, repeats, overlap}
use Rattle.cfg_check.specs.LeastLine.{least_line}
use Rattle.cfg_check.proofs.overlaps.overlapping_pairs.Given as goal

abbrev pub invariant-loop-place : goal.invariant-loop-place
invariant-loop-place l = l.least ≡ least_line (map address_line (repeats overlap (take l.place l.addresses)))
