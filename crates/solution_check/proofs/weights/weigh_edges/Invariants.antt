use Rattle.std.proofs.Common.{◌≡◌, ◌||◌, drop, filter_map}
use Rattle.std.specs.List.{list_any}
use Rattle.srp_core.specs.Candidates.{over}
use Rattle.solution_check.specs.Offers.{is_label, beats_label}
use Rattle.solution_check.proofs.weights.weigh_edges.Given as goal

-- with what is left
abbrev pub invariant-loop-edge : goal.invariant-loop-edge
invariant-loop-edge l = record {
  held : l.weight.held || list_any (is_label l.route) (filter_map (over l.srp l.labels) (drop l.edge-index l.edges)) ≡ l.fn.before.held
      || list_any (is_label l.route) (filter_map (over l.srp l.labels) l.edges);
  beaten : l.weight.beaten || list_any (beats_label l.srp l.route) (filter_map (over l.srp l.labels) (drop l.edge-index l.edges)) ≡ l.fn.before.beaten
      || list_any (beats_label l.srp l.route) (filter_map (over l.srp l.labels) l.edges);
}
