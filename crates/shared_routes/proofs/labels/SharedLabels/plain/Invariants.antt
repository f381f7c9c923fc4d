use Rattle.std.proofs.Common.{◌≡◌, ◌++◌, drop}
use Rattle.shared_routes.proofs.labels.SharedLabels.plain.Given as goal

abbrev pub invariant-loop-label : goal.invariant-loop-label
invariant-loop-label l = l.labels ++ drop l.label-index l.label-items ≡ l.label-items
