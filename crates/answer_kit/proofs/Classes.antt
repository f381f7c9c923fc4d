-- Public: from the answer to a class to the answer to the number that names it.
use Rattle.std.proofs.Common.{◌≡◌, ℕ, sym, subst, Option, Some, None}
use Rattle.cfg_ast.specs.declared.classes.DestClass.{DestClass}
use Rattle.answer_kit.specs.declared.reply.Reply.{Reply}
use Rattle.answer_kit.specs.ClassNumbers.{IsOfClass, AllowsNoClass}
use Rattle.answer_kit.specs.Outcome.{Outcome}
use Rattle.answer_kit.specs.Replies.{Answers}
use Rattle.answer_kit.proofs.Replies.{answers_as}

-- the class was found
pub answers_of_class : (reply : Reply) (found : Option DestClass) (number : ℕ) (A : DestClass → Outcome → Type 0) (class : DestClass) (first second : Type 0)
    → found ≡ Some class
    → Answers reply (A class) first second → Answers reply (IsOfClass found number A) first second
answers_of_class reply found number A class first second is answers =
    subst (λ (f : Option DestClass). Answers reply (IsOfClass f number A) first second) (sym is) answers

none_of : (found : Option DestClass) (number : ℕ) (A : DestClass → Outcome → Type 0) (o : Outcome) → IsOfClass found number AllowsNoClass o
    → IsOfClass found number A o
none_of None number A o is = is
none_of (Some class) number A o is = absurd is

-- no class has the number
pub answers_no_class : (reply : Reply) (found : Option DestClass) (number : ℕ) (A : DestClass → Outcome → Type 0) (first second : Type 0)
    → Answers reply (IsOfClass found number AllowsNoClass) ⊥ ⊥ → Answers reply (IsOfClass found number A) first second
answers_no_class reply found number A first second answers =
    answers_as reply (IsOfClass found number AllowsNoClass) (IsOfClass found number A) ⊥ first ⊥ second (none_of found number A) (λ e. absurd e)
    (λ e. absurd e) answers
