-- Carried down: what `fold` makes of a solution.
use Rattle.std.proofs.Common.{◌≡◌, inl, inr, ℕ, List, refl, sym, ap, ◌∙◌, arith, Option, Some, None, Result, Ok, Err}
use Rattle.std.specs.Prelude.{Contains, IsSome}
use Rattle.cfg_ast.specs.declared.classes.DestClass.{DestClass}
use Rattle.cfg_ast.specs.declared.network.Network.{Network}
use Rattle.cfg_ast.specs.declared.refusal.ReadRefusal.{ReadRefusal}
use Rattle.cfg_ast.specs.declared.refusal.ReadRefusal.TheVariants as read_refusal
use Rattle.cfg_ast.specs.meaning.Classes.{classes_of}
use Rattle.cfg_ast.specs.text.Reading.{reading_of}
use Rattle.srp_core.proofs.AlikeOf.{one_problem as problems_alike}
use Rattle.answer_kit.specs.ClassNumbers.{class_at, IsOfClass}
use Rattle.answer_kit.specs.Outcome.{Outcome}
use Rattle.answer_kit.proofs.OneClass.{some_prefix}
use Rattle.answer_solutions.specs.Carries.{IsFolded, IsFoldOf}
use Rattle.answer_solutions.specs.Checks.{IsCheckOf}
use Rattle.workflow_laws.specs.Commands as command
use Rattle.bonsai_top.specs.Outcomes.{IsOutcomeOfReading, IsOutcomeOfText}
use Rattle.workflow_laws.specs.CarriedDown.{CheckIsFold}
use Rattle.workflow_laws.specs.Setting.{verdict_told}
use Rattle.workflow_laws.specs.Words.{check, fold}
use Rattle.workflow_laws.proofs.Answers.{of_text}
use Rattle.workflow_laws.proofs.Named.{names_check, names_fold}
use Rattle.workflow_laws.proofs.SomeClass.{has_class}
use Rattle.workflow_laws.proofs.Verdicts.{says_so}

-- ---- `check` says what `fold` comes to

module _ (n : Network) (number : ℕ) (second : Option (List ℕ)) (told : IsSome second) (folded checked : Outcome) where
  of_class : (class : DestClass) → Contains (classes_of n) class → IsFoldOf n second class folded → IsCheckOf n second class checked
      → checked ≡ verdict_told folded
  of_class class has x y =
      let p = some_prefix n class has in
      let own = x.are.built.of p.0 p.1 in
      let alike = problems_alike n p.0 x.sides.problem y.problem own (y.of_class p.0 p.1) in
      says_so x.sides.problem (IsFolded x.sides) (λ labels o is. ap (λ (q : Outcome). q.status) is.written) y.problem alike own.rules second told folded checked
      x.solution y.solution

  of_number : (found : Option DestClass) → class_at (classes_of n) number ≡ found → IsOfClass found number (IsFoldOf n second) folded
      → IsOfClass found number (IsCheckOf n second) checked → checked ≡ verdict_told folded
  of_number None at x y = y ∙ sym (ap verdict_told x)
  of_number (Some class) at x y = of_class class (has_class n number class at) x y

module _ (number : ℕ) (second : Option (List ℕ)) (told : IsSome second) (folded checked : Outcome) where
  of_reading : (r : Result Network ReadRefusal) → IsOutcomeOfReading (command.Fold number) second r folded
      → IsOutcomeOfReading (command.Check number) second r checked → checked ≡ verdict_told folded
  of_reading (Ok n) x y = of_number n number second told folded checked (class_at (classes_of n) number) refl x y
  of_reading (Err (read_refusal.At line kind)) x y = y ∙ sym (ap verdict_told x)
  of_reading (Err read_refusal.Memory) x y = absurd x

  of_texts : (text : List ℕ) → IsOutcomeOfText (command.Fold number) second text folded → IsOutcomeOfText (command.Check number) second text checked
      → checked ≡ verdict_told folded
  of_texts text (inl x) (inl y) = y.1 ∙ sym (ap verdict_told x.1)
  of_texts text (inl x) (inr y) = absurd (omega (arith, x.0, y.0))
  of_texts text (inr x) (inl y) = absurd (omega (arith, x.0, y.0))
  of_texts text (inr x) (inr y) = of_reading (reading_of text) x.1 y.1

pub check_is_fold : CheckIsFold
check_is_fold contents F S text N short holds told folded checked x y =
    of_texts N (contents S) told folded checked text
    (of_text (fold F N S) contents (command.Fold N) refl (names_fold F S N short) text holds folded x)
    (of_text (check F N S) contents (command.Check N) refl (names_check F S N short) text holds checked y)
