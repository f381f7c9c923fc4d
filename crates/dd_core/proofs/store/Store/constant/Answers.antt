use Rattle.dd_core.proofs.ShownLemmas.{constant_true, constant_false}
use Rattle.dd_core.proofs.store.Store.constant.Goals as goal

pub returns-then-answer-clause-constant : goal.returns-then-answer-clause-constant
returns-then-answer-clause-constant c = rw (c.new.ensures, ← c.self.view_is) (constant_true _ c.self.invariant c.args.answer c.if-answer.true)

pub returns-else-answer-clause-constant : goal.returns-else-answer-clause-constant
returns-else-answer-clause-constant c = rw (c.new-else-answer.ensures, ← c.self.view_is) (constant_false _ c.self.invariant c.args.answer c.if-answer.false)
