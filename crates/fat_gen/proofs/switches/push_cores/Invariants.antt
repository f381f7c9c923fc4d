use Rattle.std.proofs.Common.{◌≡◌, ◌++◌, map}
use Rattle.std.specs.List.{range_with_len}
use Rattle.fat_gen.specs.declared.switch.Switch.TheVariants.{Core}
use Rattle.fat_gen.proofs.switches.push_cores.Given as goal

abbrev pub invariant-loop-number : goal.invariant-loop-number
invariant-loop-number l = l.switches.items ≡ l.fn.switches.items ++ map (λ number. Core number) (range_with_len 0 l.number)
