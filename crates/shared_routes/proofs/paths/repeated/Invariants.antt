use Rattle.std.proofs.Common.{◌≡◌, ◌+◌, replicate}
use Rattle.shared_routes.proofs.paths.repeated.Given as goal

abbrev pub invariant-loop-i : goal.invariant-loop-i
invariant-loop-i l = l.numbers.items ≡ replicate (l._i + 1) l.number
