use Rattle.std.proofs.Common.{◌∙◌, ap}
use Rattle.group_report.specs.JsonData.{group_data, data_of_group}
use Rattle.group_report.proofs.JsonTexts.{one_more_value}
use Rattle.group_report.proofs.json_values.groups.Goals as goal

pub loop-number-preserved : goal.loop-number-preserved
loop-number-preserved c =
    let problem = c.args.problem.now in
    one_more_value (data_of_group problem c.args.partition.now) c.loop-number.groups.items c.push.new.self.items c.in_ok-value.value c.loop-number.number
    c.in_ok-push.ensures.items (c.in_ok-value.ensures ∙ ap (group_data problem) c.members.ensures) c.loop-number.invariant
