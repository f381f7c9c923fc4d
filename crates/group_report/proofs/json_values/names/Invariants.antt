use Rattle.std.proofs.Common.{◌≡◌, map, take}
use Rattle.serde_json.specs.View.{view}
use Rattle.group_report.specs.JsonData.{name_data}
use Rattle.group_report.proofs.json_values.names.Given as goal

abbrev pub invariant-loop-router : goal.invariant-loop-router
invariant-loop-router l = map view l.names.items ≡ map (name_data l.problem) (take l.router-index l.members)
