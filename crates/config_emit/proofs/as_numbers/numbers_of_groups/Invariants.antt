use Rattle.std.proofs.Common.{◌≡◌, ◌-◌, ◌++◌, map}
use Rattle.std.specs.List.{range_with_len}
use Rattle.srp_quotient.specs.Groups.{number_of_group}
use Rattle.config_emit.proofs.as_numbers.numbers_of_groups.Given as goal

abbrev pub invariant-loop-group : goal.invariant-loop-group
invariant-loop-group l =
    l.numbers.items ++ map (number_of_group l.source.srp.now l.source.groups.now l.source.links.now) (range_with_len l.group (l.source.count - l.group))
    ≡ map (number_of_group l.source.srp.now l.source.groups.now l.source.links.now) (range_with_len 0 l.source.count)
