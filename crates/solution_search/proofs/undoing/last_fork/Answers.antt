use Rattle.std.proofs.Common.{rules, ◌≡◌, [], Option, length, ap, sym, ◌∙◌, subst}
use Rattle.std.specs.Prelude.{Vec, MatchOption}
use Rattle.std.specs.declared.alloc.Global.{Global}
use Rattle.solution_search.specs.declared.board.Change.{Change}
use Rattle.solution_search.specs.declared.board.Change.TheVariants.{Fork}
use Rattle.solution_search.specs.declared.board.Wait.{Wait}
use Rattle.solution_search.specs.Boards.{state_of, put_off}
use Rattle.solution_search.proofs.Pending.{none_pending, popped_fits, popped_fork, popped_other}
use Rattle.solution_search.proofs.undoing.last_fork.Goals as goal

pub returns-then-not-has_fork-clause-pending : goal.returns-then-not-has_fork-clause-pending
returns-then-not-has_fork-clause-pending c = none_pending c.args.board.now.changes.items (state_of c.args.board.now) (search rules)

pub returns-in-Some-2-clause-pending : goal.returns-in-Some-2-clause-pending
returns-in-Some-2-clause-pending c =
    let fork = subst (λ (o : Option Wait). MatchOption o (put_off c.in-Some.change (state_of c.undo.new.board) ≡ []) (λ w. c.in-Some.change ≡ Fork w))
    c.in-Some-2.is c.in_ok-undo.ensures.fork in
    sym c.loop-change.invariant.pending
    ∙ popped_fork c.loop-change.board c.undo.new.board c.pop.new.self.items c.in-Some.change c.in-Some-2.wait c.in-Some.ensures.items c.in_ok-undo.ensures.state
    (ap (λ (v : Vec Change Global). v.items) c.in_ok-undo.ensures.changes) fork

pub loop-change-preserved : goal.loop-change-preserved
loop-change-preserved c =
    let changes = ap (λ (v : Vec Change Global). v.items) c.in_ok-undo.ensures.changes in
    let none = subst (λ (o : Option Wait). MatchOption o (put_off c.in-Some.change (state_of c.undo.new.board) ≡ []) (λ w. c.in-Some.change ≡ Fork w))
    c.in-None.is c.in_ok-undo.ensures.fork in
    record {
      fits = popped_fits (length c.args.board.now.labels) c.loop-change.board c.undo.new.board c.pop.new.self.items c.in-Some.change
          c.loop-change.invariant.fits
          c.in-Some.ensures.items c.in_ok-undo.ensures.state changes c.in_ok-undo.ensures.tie;
      tie = c.in_ok-undo.ensures.tie ∙ c.loop-change.invariant.tie;
      pending = sym (popped_other c.loop-change.board c.undo.new.board c.pop.new.self.items c.in-Some.change c.in-Some.ensures.items
          c.in_ok-undo.ensures.state changes
          none) ∙ c.loop-change.invariant.pending;
    }
