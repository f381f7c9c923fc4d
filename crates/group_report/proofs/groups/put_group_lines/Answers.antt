use Rattle.std.proofs.Common.{◌++◌, ◌+◌, ◌∙◌, ap, List, ℕ, string_bytes}
use Rattle.group_report.specs.GroupLines.{line_of_group, group_line}
use Rattle.group_report.proofs.LineSteps.{line_step}
use Rattle.group_report.proofs.groups.put_group_lines.Goals as goal

pub loop-group-preserved : goal.loop-group-preserved
loop-group-preserved c =
    let problem = c.args.problem.now in
    let groups = c.args.partition.now in
    let written = ap (λ (members : List ℕ). string_bytes c.loop-group.text ++ group_line problem (c.loop-group.group + 1) members) c.members-members.ensures in
    line_step (line_of_group problem groups) (string_bytes c.loop-group.text) (string_bytes c.put_group.new.text) _ c.loop-group.group c.args.count
    c.loop-group-test.true (c.in_ok-put_group.ensures ∙ written) c.loop-group.invariant
