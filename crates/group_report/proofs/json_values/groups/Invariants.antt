use Rattle.std.proofs.Common.{◌≡◌, map}
use Rattle.serde_json.specs.View.{view}
use Rattle.group_report.specs.JsonData.{groups_data}
use Rattle.group_report.proofs.json_values.groups.Given as goal

abbrev pub invariant-loop-number : goal.invariant-loop-number
invariant-loop-number l = map view l.groups.items ≡ groups_data l.problem l.partition l.number
