use Rattle.std.proofs.Common.{refl}
use Rattle.srp_core.specs.Routes.{path_of}
use Rattle.route_run.proofs.NoneLone.{none_tie}
use Rattle.route_run.proofs.comparing.compare_lone.Goals as goal

pub returns-then-is_empty : goal.returns-then-is_empty
returns-then-is_empty c = none_tie c.args.lone.now (c.if-is_empty.ensures.0 refl) (path_of c.args.route.now) (path_of c.args.other.now)
