use Rattle.std.proofs.Common.{nat_eq}
use Rattle.std.specs.HashSet.{contains}
use Rattle.route_run.specs.Choices.{IsBestUpto}
use Rattle.route_run.proofs.choosing.first_best.Given as goal

abbrev pub invariant-loop-place : goal.invariant-loop-place
invariant-loop-place l = IsBestUpto (contains nat_eq l.lone) l.candidates l.place l.best
