use Rattle.std.proofs.Common.{rules, ◌≡◌, None, refl, set, ap, ◌∙◌, arith}
use Rattle.solution_search.specs.declared.board.Board.{Board}
use Rattle.solution_search.specs.Boards.{state_of}
use Rattle.solution_search.proofs.Queued.{emptied_queued, taken_queued}
use Rattle.solution_search.proofs.settling.take.Goals as goal

pub returns-in-None-clause-queued : goal.returns-in-None-clause-queued
returns-in-None-clause-queued c = λ turns q. emptied_queued (state_of c.args.board.now) _ c.args.router turns refl refl (search rules) q

pub returns-in_ok-push-in-Some-clause-queued : goal.returns-in_ok-push-in-Some-clause-queued
returns-in_ok-push-in-Some-clause-queued c = λ turns.
    let bests : c.note_at_take.new.board.bests.items ≡ set c.args.board.now.bests.items c.args.router None = search rules in
    taken_queued c.args.board.now c.note_at_take.new.board c.args.router _ turns
    (let f = c.requires.fits.labels in let r = c.requires.router in omega (arith, f, r))
    (ap (λ (b : Board). b.labels) c.note_at_take.ensures.same ∙ c.set.ensures) (ap (λ (b : Board). b.waits.items) c.note_at_take.ensures.same) bests
