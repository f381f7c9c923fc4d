use Rattle.std.proofs.Common.{◌≡◌, map, take}
use Rattle.route_run.specs.declared.schedule.Activation.TheVariants.{One}
use Rattle.route_run.specs.declared.order.Rank.{Rank}
use Rattle.route_run.proofs.order.activations_of.Given as goal

abbrev pub invariant-loop-rank : goal.invariant-loop-rank
invariant-loop-rank l = l.schedule ≡ map (λ (rank : Rank). One rank.router) (take l.rank-index l.ranks)
