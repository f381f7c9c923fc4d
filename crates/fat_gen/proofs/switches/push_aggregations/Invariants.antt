use Rattle.std.proofs.Common.{◌≡◌, ◌++◌, map}
use Rattle.std.specs.List.{range_with_len}
use Rattle.fat_gen.specs.declared.switch.Switch.TheVariants.{Aggregation}
use Rattle.fat_gen.proofs.switches.push_aggregations.Given as goal

abbrev pub invariant-loop-number : goal.invariant-loop-number
invariant-loop-number l = l.switches.items ≡ l.fn.switches.items ++ map (λ number. Aggregation l.pod number) (range_with_len 0 l.number)
