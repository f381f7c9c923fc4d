use Rattle.std.proofs.Common.{◌≡◌, ◌∙◌, ap, subst}
use Rattle.srp_core.specs.Problem.{Problem, count, IsProblem}
use Rattle.solution_search.specs.Boards.{state_of}
use Rattle.solution_search.specs.Looks.{IsClosed, HasOffered, HasNoneOffered}
use Rattle.solution_search.proofs.Stepping.{dead, solved}
use Rattle.solution_search.proofs.searching.advance.Goals as goal

pub returns-then-has_waiting-clause-steps : goal.returns-then-has_waiting-clause-steps
returns-then-has_waiting-clause-steps c =
    let P = c.args.lookups.now in
    let good = subst IsProblem c.lookups.view_is c.count-routers.ensures.rules in
    let total : c.count-routers.result ≡ count P = c.count-routers.ensures.count ∙ ap (λ (p : Problem). count p) c.lookups.view_is in
    let old = c.args.board.now in
    dead P good old c.requires.board (subst (IsClosed (state_of old)) total c.in-None.ensures.next)
    (subst (HasOffered (state_of old)) total c.if-has_waiting.ensures)

pub returns-else-has_waiting-clause-steps : goal.returns-else-has_waiting-clause-steps
returns-else-has_waiting-clause-steps c =
    let P = c.args.lookups.now in
    let good = subst IsProblem c.lookups.view_is c.count-routers.ensures.rules in
    let total : c.count-routers.result ≡ count P = c.count-routers.ensures.count ∙ ap (λ (p : Problem). count p) c.lookups.view_is in
    let old = c.args.board.now in
    solved P good old c.requires.board (subst (HasNoneOffered (state_of old)) total c.if-has_waiting.ensures)
