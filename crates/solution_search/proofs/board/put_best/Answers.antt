use Rattle.std.proofs.Common.{ℕ, subst, rules}
use Rattle.solution_search.specs.Boards.{state_of}
use Rattle.solution_search.specs.Queues.{IsListed}
use Rattle.solution_search.proofs.Queued.{put_queued}
use Rattle.solution_search.proofs.board.put_best.Goals as goal

pub returns-clause-queued : goal.returns-clause-queued
returns-clause-queued c = λ q. put_queued (state_of c.args.board.now) _ c.args.router c.args.best c.args.queue.now c.push.new.self c.requires (search rules)
    c.in_ok-push.ensures.kept (subst (λ (n : ℕ). IsListed c.push.new.self n c.args.router) c.size_of.ensures c.in_ok-push.ensures.new) q
