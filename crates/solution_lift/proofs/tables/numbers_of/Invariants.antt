use Rattle.std.proofs.Common.{◌≡◌, map}
use Rattle.std.specs.List.{range_with_len}
use Rattle.srp_quotient.specs.Groups.{number_of_group}
use Rattle.solution_lift.proofs.tables.numbers_of.Given as goal

abbrev pub invariant-loop-group : goal.invariant-loop-group
invariant-loop-group l = l.numbers ≡ map (number_of_group l.srp l.p l.links) (range_with_len 0 l.group)
