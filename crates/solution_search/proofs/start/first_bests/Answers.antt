use Rattle.std.proofs.Common.{List, Option, length, ap, arith}
use Rattle.srp_core.specs.declared.route.Route.{Route}
use Rattle.srp_core.specs.Problem.{Problem, count}
use Rattle.solution_search.proofs.start.first_bests.Goals as goal

pub returns-clause-total : goal.returns-clause-total
returns-clause-total c =
    let items = ap (λ (l : List (Option Route)). length l) c.init-initial-items.ensures in
    let init = c.count-known.ensures.rules.tables.init in
    let routers = ap (λ (p : Problem). count p) c.lookups.view_is in
    let total = c.loop-initial.invariant.total in
    let end = c.loop-initial.auto.initial-index-end in
    let behind = c.loop-initial-test.false in
    omega (arith, items, init, routers, total, end, behind)
