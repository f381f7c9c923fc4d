use Rattle.std.proofs.Common.{◌≡◌, ◌<◌, [], ◌∷◌, Option, length, ◌∙◌, subst, arith}
use Rattle.std.specs.Prelude.{IfSome, MatchOption}
use Rattle.solution_search.specs.declared.board.Wait.{Wait}
use Rattle.solution_search.specs.Boards.{state_of, pending_of, waits_for}
use Rattle.solution_search.proofs.Pending.{turned}
use Rattle.solution_search.proofs.undoing.turn_back.Goals as goal

pub returns-in_ok-put_wait-in-Some-clause-pending : goal.returns-in_ok-put_wait-in-Some-clause-pending
returns-in_ok-put_wait-in-Some-clause-pending c =
    let old = c.args.board.now in
    let mid = c.last_fork.new.board in
    let within = subst (λ (o : Option Wait). IfSome o (λ wait. wait.router < length old.labels)) c.in-Some.is c.in_ok-last_fork.ensures.within in
    let pending = subst (λ (o : Option Wait). MatchOption o (pending_of old ≡ []) (λ wait. pending_of old ≡ waits_for wait (state_of mid) ∷ pending_of mid))
    c.in-Some.is c.in_ok-last_fork.ensures.pending in
    let inside : c.in-Some.wait.router < length mid.waits.items = (let f = c.in_ok-last_fork.ensures.fits.waits in omega (arith, within, f)) in
    pending
    ∙ turned mid c.put_wait.new.board c.in-Some.wait inside c.in_ok-put_wait-in-Some.ensures.same c.in_ok-put_wait-in-Some.ensures.waits
    c.in_ok-put_wait-in-Some.ensures.changes
