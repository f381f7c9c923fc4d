use Rattle.std.proofs.Common.{nat_eq, sym, ◌∙◌}
use Rattle.std.specs.HashSet.{contains}
use Rattle.std.proofs.lemmas.Slice.Eq.{bytes_eq-Decides}
use Rattle.srp_core.specs.Routes.{path_of}
use Rattle.route_run.proofs.NoneLone.{equal_tie}
use Rattle.route_run.proofs.comparing.compare_paths.Goals as goal

pub returns-then-eq : goal.returns-then-eq
returns-then-eq c = equal_tie (contains nat_eq c.args.lone.now) (path_of c.args.route.now) (path_of c.args.other.now)
    (sym c.path_of.ensures ∙ (bytes_eq-Decides c.path_of.result.now c.path_of-2.result.now).0 (sym c.eq.ensures ∙ c.if-eq.true) ∙ c.path_of-2.ensures)
