use Rattle.std.proofs.Common.{◌≡◌, ◌<◌, ◌^◌, ℕ, map, Some}
use Rattle.std.specs.List.{range_with_len}
use Rattle.srp_core.specs.declared.route.Route.{Route}
use Rattle.srp_core.specs.Routes.{size_of}
use Rattle.srp_core.specs.Stability.{label}
use Rattle.route_run.specs.Ranks.{rank_at}
use Rattle.route_run.proofs.order.ranks_by_router.Given as goal

abbrev pub invariant-loop-router : goal.invariant-loop-router
invariant-loop-router l = record {
  ranks : l.ranks.items ≡ map (rank_at l.labels) (range_with_len 0 l.router);
  short : (u : ℕ) (r : Route) → u < l.router → label l.labels u ≡ Some r → size_of r < 2 ^ 64;
}
