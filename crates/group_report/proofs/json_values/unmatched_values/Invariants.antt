use Rattle.std.proofs.Common.{◌≡◌, map, take}
use Rattle.serde_json.specs.View.{view}
use Rattle.group_report.specs.JsonData.{unmatched_data}
use Rattle.group_report.proofs.json_values.unmatched_values.Given as goal

abbrev pub invariant-loop-neighbor : goal.invariant-loop-neighbor
invariant-loop-neighbor l = map view l.values.items ≡ map (unmatched_data l.problem) (take l.neighbor-index l.unmatched)
