use Rattle.std.proofs.Common.{◌≡◌, ℕ, ◌<◌, get_or, false}
use Rattle.base_kit.specs.Numbers.{is_digit}
use Rattle.cfg_ast.proofs.lookups.first_digit.Given as goal

abbrev pub invariant-loop-i : goal.invariant-loop-i
invariant-loop-i l = (k : ℕ) → k < l.i → is_digit (get_or l.name k 0) ≡ false
