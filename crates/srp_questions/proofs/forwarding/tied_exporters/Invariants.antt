use Rattle.std.proofs.Common.{◌≡◌, take}
use Rattle.srp_questions.specs.Ties.{tied_exporters}
use Rattle.srp_questions.proofs.forwarding.tied_exporters.Given as goal

abbrev pub invariant-loop-edge : goal.invariant-loop-edge
invariant-loop-edge l = l.found.items ≡ tied_exporters l.srp l.labels l.route (take l.edge-index l.edges)
