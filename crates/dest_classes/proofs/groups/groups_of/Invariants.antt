use Rattle.std.proofs.Common.{◌≡◌, [], map}
use Rattle.dest_classes.specs.Groups.{shown_group, grouped_with_all}
use Rattle.dest_classes.proofs.groups.groups_of.Given as goal

abbrev pub invariant-loop-member : goal.invariant-loop-member
invariant-loop-member l = grouped_with_all l.member-iterator.rest.items (map shown_group l.groups.entries) ≡ grouped_with_all l.fn.members.items []
