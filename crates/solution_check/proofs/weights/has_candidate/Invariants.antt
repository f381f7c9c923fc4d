use Rattle.std.proofs.Common.{◌≡◌, drop, filter_map}
use Rattle.std.specs.List.{list_any}
use Rattle.srp_core.specs.Candidates.{over}
use Rattle.solution_check.specs.Offers.{always}
use Rattle.solution_check.proofs.weights.has_candidate.Given as goal

-- what is left has one where all have
abbrev pub invariant-loop-edge : goal.invariant-loop-edge
invariant-loop-edge l = list_any always (filter_map (over l.srp l.labels) (drop l.edge-index l.edges)) ≡ list_any always
    (filter_map (over l.srp l.labels) l.edges)
