use Rattle.std.proofs.Common.{subst}
use Rattle.std.specs.BinaryHeap.{heap_items}
use Rattle.solution_search.specs.Queues.{Turns, KeepsListed}
use Rattle.solution_search.proofs.Queued.{pushed, pushed_keeps}
use Rattle.solution_search.proofs.queue.Queue.push.Goals as goal

pub returns-clause-new : goal.returns-clause-new
returns-clause-new c = pushed (heap_items c.self.inside.turns) (heap_items c.push.new.self) _ c.in_ok-push.ensures.permutation

pub returns-clause-kept : goal.returns-clause-kept
returns-clause-kept c = subst (λ (turns : Turns). KeepsListed turns (heap_items c.push.new.self)) c.self.view_is
    (pushed_keeps (heap_items c.self.inside.turns) (heap_items c.push.new.self) _ c.in_ok-push.ensures.permutation)
