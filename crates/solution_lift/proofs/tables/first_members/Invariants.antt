use Rattle.std.proofs.Common.{◌≡◌, map}
use Rattle.std.specs.List.{range_with_len}
use Rattle.srp_quotient.specs.Groups.{first_member}
use Rattle.solution_lift.proofs.tables.first_members.Given as goal

abbrev pub invariant-loop-group : goal.invariant-loop-group
invariant-loop-group l = l.firsts.items ≡ map (first_member l.p) (range_with_len 0 l.group)
