-- From what folding, lifting and the check of labels answer to what is to be reported.
use Rattle.std.proofs.Common.{◌≡◌, ℕ, List, refl, subst, Option}
use Rattle.cfg_ast.specs.declared.network.Network.{Network}
use Rattle.cfg_ast.specs.declared.classes.DestClass.{DestClass}
use Rattle.srp_core.specs.declared.route.Route.{Route}
use Rattle.srp_core.specs.Problem.{Problem}
use Rattle.srp_core.specs.Stability.{AreLabels, IsStable}
use Rattle.solution_check.specs.declared.judgement.Answer.TheVariants.{Stable, Not}
use Rattle.solution_check.specs.Breaks.{IsFirstBreak}
use Rattle.solution_lift.specs.Carried.{IsFolding, IsLifting}
use Rattle.solution_text.specs.Printed.{labels_text}
use Rattle.answer_kit.specs.declared.reply.Reply.{Reply}
use Rattle.answer_kit.specs.Outcome.{Outcome, done, not_stable}
use Rattle.answer_kit.specs.Replies.{Answers, Only}
use Rattle.answer_kit.specs.SecondFiles.{IsOfSolution}
use Rattle.answer_kit.proofs.Replies.{answers_as, answers_only}
use Rattle.answer_solutions.specs.declared.carry.Way.{Way}
use Rattle.answer_solutions.specs.declared.sides.Sides.{Sides}
use Rattle.answer_solutions.specs.Carries.{AreSides, carried_from, IsOfStable, IsFolded, IsLifted, IsCarryOfLabels, IsCarryOf}
use Rattle.answer_solutions.specs.Checks.{break_reason}

pub answers_folded : (reply : Reply) (sides : Sides) (labels lower : List (Option Route)) → IsFolding sides.problem sides.small sides.groups labels lower
    → Answers reply (Only (done (labels_text sides.small.names lower))) ⊥ ⊥ → Answers reply (IsFolded sides labels) ⊥ ⊥
answers_folded reply sides labels lower is answers = answers_only reply (done (labels_text sides.small.names lower)) (IsFolded sides labels) ⊥ ⊥
    (record { lower = lower; is = is; written = refl }) answers

pub answers_lifted : (reply : Reply) (sides : Sides) (lower labels : List (Option Route)) → IsLifting sides.problem sides.small sides.groups lower labels
    → Answers reply (Only (done (labels_text sides.problem.names labels))) ⊥ ⊥ → Answers reply (IsLifted sides lower) ⊥ ⊥
answers_lifted reply sides lower labels is answers = answers_only reply (done (labels_text sides.problem.names labels)) (IsLifted sides lower) ⊥ ⊥
    (record { labels = labels; is = is; written = refl }) answers

-- labels are stable
pub answers_stable : (reply : Reply) (P : Problem) (labels : List (Option Route)) (A : Outcome → Type 0) → AreLabels P labels → IsStable P labels
    → Answers reply A ⊥ ⊥ → Answers reply (IsOfStable P labels A) ⊥ ⊥
answers_stable reply P labels A fitting stable answers =
    answers_as reply A (IsOfStable P labels A) ⊥ ⊥ ⊥ ⊥ (λ o is. record { fitting = fitting; answer = Stable; judged = stable; told = is }) (λ e. e) (λ e. e)
    answers

-- a router breaks stability
pub answers_broken : (reply : Reply) (P : Problem) (labels : List (Option Route)) (A : Outcome → Type 0) (router why : ℕ) → AreLabels P labels
    → IsFirstBreak P labels router why
    → Answers reply (Only (not_stable (break_reason P router why))) ⊥ ⊥ → Answers reply (IsOfStable P labels A) ⊥ ⊥
answers_broken reply P labels A router why fitting breaks answers =
    answers_only reply (not_stable (break_reason P router why)) (IsOfStable P labels A) ⊥ ⊥
    (record { fitting = fitting; answer = Not router why; judged = breaks; told = refl }) answers

-- ---- a class

module _ (way : Way) (n : Network) (class : DestClass) (s : Sides) (are : AreSides n class s) (P : Problem) (from : P ≡ carried_from way s)
    (second : Option (List ℕ)) where
  carries : (o : Outcome) → IsOfSolution P second (IsCarryOfLabels way s P) o → IsCarryOf way n second class o
  carries o is = record { sides = s; are = are; solution = subst (λ (Q : Problem). IsOfSolution Q second (IsCarryOfLabels way s Q) o) from is }

  pub answers_carry_of : (reply : Reply) (rose : Type 0) → Answers reply (IsOfSolution P second (IsCarryOfLabels way s P)) ⊥ rose
      → Answers reply (IsCarryOf way n second class) ⊥ rose
  answers_carry_of reply rose answers = answers_as reply (IsOfSolution P second (IsCarryOfLabels way s P)) (IsCarryOf way n second class) ⊥ ⊥ rose rose carries
      (λ e. e) (λ r. r) answers
