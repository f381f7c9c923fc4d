use Rattle.std.proofs.Common.{nat_eq}
use Rattle.std.specs.HashSet.{contains}
use Rattle.std.proofs.lemmas.List.MinMax.{IsFirstBest-none}
use Rattle.route_run.proofs.Routes.{candidates_rank}
use Rattle.route_run.proofs.choosing.first_best.Goals as goal

pub loop-place-init : goal.loop-place-init
loop-place-init c = IsFirstBest-none (candidates_rank (contains nat_eq c.args.lone.now)) c.args.candidates.now
