use Rattle.std.proofs.Common.{sym, subst}
use Rattle.answer_kit.specs.Replies.{Answers}
use Rattle.answer_solutions.specs.declared.carry.Way.{Way}
use Rattle.answer_solutions.specs.Carries.{IsCarriedBy}
use Rattle.answer_solutions.proofs.carry.carried.Goals as goal

pub returns-in-Fold : goal.returns-in-Fold
returns-in-Fold c = subst (λ (way : Way). Answers c.folded.result (IsCarriedBy way c.args.sides.now c.args.labels.now) ⊥ ⊥) (sym c.in-Fold.is) c.folded.ensures

pub returns-in-Lift : goal.returns-in-Lift
returns-in-Lift c = subst (λ (way : Way). Answers c.lifted.result (IsCarriedBy way c.args.sides.now c.args.labels.now) ⊥ ⊥) (sym c.in-Lift.is) c.lifted.ensures
