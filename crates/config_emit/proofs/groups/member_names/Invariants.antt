use Rattle.std.proofs.Common.{◌≡◌, ◌-◌, [], ◌++◌, map}
use Rattle.std.specs.Prelude.{slice_index_or}
use Rattle.std.specs.List.{range_with_len}
use Rattle.base_kit.specs.Partition.{members_of}
use Rattle.config_emit.proofs.groups.member_names.Given as goal

abbrev pub invariant-loop-group : goal.invariant-loop-group
invariant-loop-group l =
    l.found ++ map (λ g. map (λ u. slice_index_or l.names u []) (members_of l.groups g)) (range_with_len l.group (l.count - l.group))
    ≡ map (λ g. map (λ u. slice_index_or l.names u []) (members_of l.groups g)) (range_with_len 0 l.count)
