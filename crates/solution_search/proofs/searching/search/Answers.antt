use Rattle.std.proofs.Common.{◌≡◌, [], List, Option, refl, sym, subst}
use Rattle.srp_core.specs.declared.route.Route.{Route}
use Rattle.srp_core.specs.Problem.{Problem, IsProblem}
use Rattle.solution_search.specs.declared.searching.Ending.{Ending}
use Rattle.solution_search.specs.Boards.{is_tied, cases_of, IsBoard}
use Rattle.solution_search.specs.Search.{IsSearched}
use Rattle.solution_search.specs.Steps.{Turned}
use Rattle.solution_search.proofs.Turning.{start_searched}
use Rattle.solution_search.proofs.searching.search.Goals as goal

pub loop-queue-init : goal.loop-queue-init
loop-queue-init g c =
    let board = c.in_ok-board.board in
    let facts = c.in_ok-board.ensures in
    let same : c.in_ok-lookups.lookups ≡ c.args.srp.now = c.in_ok-lookups.ensures in
    let good : IsProblem c.in_ok-lookups.lookups = subst IsProblem (sym same) c.count-known.ensures.rules in
    let searched : IsSearched c.in_ok-lookups.lookups [] (cases_of board) (is_tied board) =
    start_searched c.in_ok-lookups.lookups good board facts.labels facts.waits facts.changes facts.tie in
    record {
      board = subst (λ (p : Problem). IsBoard p board) same facts.board;
      queued = c.in_ok-queue_all.ensures;
      problem = c.requires;
      task = refl;
      searched = λ saw. ([], saw, subst (λ (p : Problem). IsSearched p [] (cases_of board) (is_tied board)) same searched);
    }

pub returns-in-Some-clause-ends : goal.returns-in-Some-clause-ends
returns-in-Some-clause-ends g c =
    let same : c.in_ok-lookups.lookups ≡ c.args.srp.now = c.in_ok-lookups.ensures in
    let board = c.loop-queue.board in
    let new = c.turn.new.board in
    let turned = subst (λ (p : Problem). (found : List (List (Option Route))) → g.V.Visitor.Saw c.loop-queue.visitor found →
    IsSearched p found (cases_of board) (is_tied board) →
    (more : List (List (Option Route))) × g.V.Visitor.Saw c.turn.new.visitor more × Turned p more
    (g.V.Visitor.wants c.turn.new.visitor) new c.in_ok-ending.field-0)
    same c.in_ok-ending.ensures.turned in
    λ start. (let s = c.loop-queue.invariant.searched start in
    let m = turned s.0 s.1 s.2 in (
      m.0,
      m.1,
      subst (λ (o : Option Ending). Turned c.args.srp.now m.0 (g.V.Visitor.wants c.turn.new.visitor) new o) c.in-Some.is m.2,
    ))
