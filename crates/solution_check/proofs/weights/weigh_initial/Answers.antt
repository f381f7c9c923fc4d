use Rattle.std.proofs.Common.{◌≡◌, ◌∙◌, ◌<◌, sym, ap, arith, length, get_or, List, Option, Some, None}
use Rattle.std.proofs.lemmas.List.{get_or_default}
use Rattle.srp_core.specs.declared.route.Route.{Route}
use Rattle.srp_core.specs.Problem.{initial}
use Rattle.solution_check.proofs.Weighed.{if_ok, bare_weighs}
use Rattle.solution_check.proofs.weights.weigh_initial.Goals as goal

pub returns-in-Some : goal.returns-in-Some
returns-in-Some c =
    let P = c.args.srp.now in
    let rules = c.count-known.ensures.rules in
    let same = ap (λ (l : List (Option Route)). length l) c.init.ensures in
    let inside : c.args.router < length c.init.result.now = omega (arith, rules.tables.init, same, c.requires.router) in
    let found : initial P c.args.router ≡ Some c.in-Some.candidate =
    sym (get_or_default c.init.result.now c.args.router c.index-init-router.result None inside
    ∙ ap (λ (l : List (Option Route)). get_or l c.args.router None) c.init.ensures) ∙ sym c.index-init-router.is ∙ c.in-Some.is in
    if_ok c.weigh_bare.result (bare_weighs P c.args.route.now c.in-Some.candidate (initial P c.args.router) c.args.other.now found
    (rules.starts.paths c.args.router c.in-Some.candidate found) c.requires.other) c.weigh_bare.ensures
