use Rattle.std.proofs.Common.{◌≡◌, ◌++◌, drop, flat_map, string_bytes}
use Rattle.group_report.specs.GroupLines.{member_word}
use Rattle.group_report.proofs.groups.put_members.Given as goal

abbrev pub invariant-loop-router : goal.invariant-loop-router
invariant-loop-router l = string_bytes l.text ++ flat_map (member_word l.problem) (drop l.router-index l.members) ≡ string_bytes l.fn.text
    ++ flat_map (member_word l.problem) l.members
