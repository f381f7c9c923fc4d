use Rattle.std.proofs.Common.{sym, subst}
use Rattle.std.specs.BinaryHeap.{heap_items}
use Rattle.solution_search.specs.Queues.{Turns, IsFirstTurn, DropsListed}
use Rattle.solution_search.proofs.Queued.{dropped}
use Rattle.solution_search.proofs.queue.Queue.drop_first.Goals as goal

pub returns-clause-rest : goal.returns-clause-rest
returns-clause-rest c = λ size router f. subst (λ (turns : Turns). DropsListed turns (heap_items c.pop.new.self) size router) c.self.view_is
    (dropped (heap_items c.self.inside.turns) (heap_items c.pop.new.self) c.in-Some._turn size router
    (subst (λ (turns : Turns). IsFirstTurn turns size router) (sym c.self.view_is) f) c.in-Some.ensures.top c.in-Some.ensures.permutation)
