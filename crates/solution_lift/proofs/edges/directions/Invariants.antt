use Rattle.std.proofs.Common.{◌≡◌, ◌++◌, drop}
use Rattle.std.specs.Prelude.{flat_map}
use Rattle.std.specs.List.{enumerate_from}
use Rattle.srp_quotient.specs.Groups.{edges_of_link}
use Rattle.solution_lift.proofs.edges.directions.Given as goal

abbrev pub invariant-loop-place : goal.invariant-loop-place
invariant-loop-place l =
    l.found.items ++ flat_map (edges_of_link l.protocol l.edges l.links) (enumerate_from l.place (drop l.place l.links))
    ≡ flat_map (edges_of_link l.protocol l.edges l.links) (enumerate_from 0 l.links)
