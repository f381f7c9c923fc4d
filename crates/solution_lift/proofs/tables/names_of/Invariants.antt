use Rattle.std.proofs.Common.{◌≡◌, ◌++◌, [], drop, map, slice_index_or}
use Rattle.solution_lift.proofs.tables.names_of.Given as goal

abbrev pub invariant-loop-router : goal.invariant-loop-router
invariant-loop-router l = l.copies ++ map (λ router. slice_index_or l.names router []) (drop l.router-index l.routers) ≡ map
    (λ router. slice_index_or l.names router []) l.routers
