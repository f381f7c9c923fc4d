use Rattle.std.proofs.Common.{◌≡◌, List, Option, []}
use Rattle.srp_core.specs.declared.route.Route.{Route}
use Rattle.solution_search.specs.Boards.{is_tied, cases_of, state_of, IsBoard}
use Rattle.solution_search.specs.Burdens.{burden}
use Rattle.solution_search.specs.Queues.{IsQueued}
use Rattle.solution_search.specs.Search.{IsSearched}
use Rattle.solution_search.proofs.searching.search.Given as goal

abbrev pub invariant-loop-queue : goal.invariant-loop-queue
invariant-loop-queue g l = record {
  board : IsBoard l.srp l.board;
  queued : IsQueued (state_of l.board) l.queue;
  problem : g.V.Visitor.problem l.visitor ≡ l.srp;
  task : g.V.Visitor.task l.visitor ≡ g.V.Visitor.task l.initial.visitor;
  searched : g.V.Visitor.Saw l.initial.visitor [] → (found : List (List (Option Route))) × g.V.Visitor.Saw l.visitor found × IsSearched l.srp found
      (cases_of l.board) (is_tied l.board);
}

abbrev pub decreases-loop-queue : goal.decreases-loop-queue
decreases-loop-queue g l = burden (cases_of l.board)
