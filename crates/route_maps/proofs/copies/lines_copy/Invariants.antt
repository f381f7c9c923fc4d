use Rattle.std.proofs.Common.{◌≡◌, ◌++◌, drop}
use Rattle.route_maps.proofs.copies.lines_copy.Given as goal

abbrev pub invariant-loop-line : goal.invariant-loop-line
invariant-loop-line l = l.copies ++ drop l.line-index l.lines ≡ l.lines
