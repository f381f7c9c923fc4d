use Rattle.route_run.proofs.AlikeRuns.{run_same, moving_same, rest_same}
use Rattle.route_run.proofs.laws.alike.Goals as goal

pub returns-clause-run : goal.returns-clause-run
returns-clause-run c = λ first second run rules same. run_same first second same rules run

pub returns-clause-moving : goal.returns-clause-moving
returns-clause-moving c = λ first second labels u v rules same fits a b. moving_same first second same labels fits u v a b

pub returns-clause-rest : goal.returns-clause-rest
returns-clause-rest c = λ first second labels u rules same fits stable b. rest_same first second same labels fits u stable b
