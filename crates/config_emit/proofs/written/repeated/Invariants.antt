use Rattle.std.proofs.Common.{◌≡◌, replicate}
use Rattle.config_emit.proofs.written.repeated.Given as goal

abbrev pub invariant-loop-i : goal.invariant-loop-i
invariant-loop-i l = l.numbers ≡ replicate l.i l.number
