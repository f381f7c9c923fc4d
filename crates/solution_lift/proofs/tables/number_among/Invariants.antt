use Rattle.std.proofs.Common.{◌≡◌, drop}
use Rattle.solution_lift.specs.Members.{first_nonzero_number}
use Rattle.solution_lift.proofs.tables.number_among.Given as goal

abbrev pub invariant-loop-router : goal.invariant-loop-router
invariant-loop-router l = first_nonzero_number l.numbers l.routers ≡ first_nonzero_number l.numbers (drop l.router-index l.routers)
