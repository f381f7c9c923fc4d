-- Public: a text allows one outcome if its content, a network or a solution, allows one.
use Rattle.std.proofs.Common.{◌≡◌, inl, inr, ℕ, List, sym, ◌∙◌, subst, arith, Option, Some, None, Result, Ok, Err}
use Rattle.std.specs.Prelude.{IsSome}
use Rattle.cfg_ast.specs.declared.network.Network.{Network}
use Rattle.cfg_ast.specs.declared.refusal.ReadRefusal.{ReadRefusal}
use Rattle.cfg_ast.specs.declared.refusal.ReadRefusal.TheVariants as read_refusal
use Rattle.cfg_ast.specs.text.Reading.{reading_of}
use Rattle.srp_core.specs.declared.route.Route.{Route}
use Rattle.srp_core.specs.Problem.{Problem}
use Rattle.solution_text.specs.declared.refusal.SolRefusal.{SolRefusal}
use Rattle.solution_text.specs.declared.refusal.SolRefusal.TheVariants as sol_refusal
use Rattle.solution_text.specs.Solutions.{labels_of_text}
use Rattle.answer_kit.specs.Networks.{text_limit, long_text, IsOfReading, IsOfNetworkIn}
use Rattle.answer_kit.specs.Outcome.{Outcome}
use Rattle.answer_kit.specs.SecondFiles.{IsOfText, IsOfSecond, solution_limit, long_solution, IsOfLabels, IsOfLabelsIn, IsOfSolution}

-- a text allows one outcome, if it does so when it is short
pub one_of_text : (limit : ℕ) (long : List ℕ) (A B : List ℕ → Outcome → Type 0) (text : List ℕ) (o p : Outcome) → (A text o → B text p → o ≡ p)
    → IsOfText limit long A text o → IsOfText limit long B text p → o ≡ p
one_of_text limit long A B text o p one (inl x) (inl y) = x.1 ∙ sym y.1
one_of_text limit long A B text o p one (inl x) (inr y) = absurd (omega (arith, x.0, y.0))
one_of_text limit long A B text o p one (inr x) (inl y) = absurd (omega (arith, x.0, y.0))
one_of_text limit long A B text o p one (inr x) (inr y) = one x.1 y.1

-- the same of a file that is known
pub one_of_second : (limit : ℕ) (long : List ℕ) (A B : List ℕ → Outcome → Type 0) (second : Option (List ℕ)) → IsSome second → (o p : Outcome)
    → ((text : List ℕ) → A text o → B text p → o ≡ p)
    → IsOfSecond limit long second A o → IsOfSecond limit long second B p → o ≡ p
one_of_second limit long A B None told o p one x y = cc
one_of_second limit long A B (Some text) told o p one x y = one_of_text limit long A B text o p (one text) x y

-- the same of the network that a text gives
one_of_reading : (A : Network → Outcome → Type 0) → ((n : Network) (o p : Outcome) → A n o → A n p → o ≡ p) → (r : Result Network ReadRefusal) (o p : Outcome)
    → IsOfReading A r o → IsOfReading A r p → o ≡ p
one_of_reading A one (Ok n) o p x y = one n o p x y
one_of_reading A one (Err (read_refusal.At line kind)) o p x y = x ∙ sym y
one_of_reading A one (Err read_refusal.Memory) o p x y = absurd x

pub one_of_network : (A : Network → Outcome → Type 0) → ((n : Network) (o p : Outcome) → A n o → A n p → o ≡ p) → (text : List ℕ) (o p : Outcome)
    → IsOfNetworkIn A text o → IsOfNetworkIn A text p → o ≡ p
one_of_network A one text o p x y =
    one_of_text text_limit long_text (λ t q. IsOfReading A (reading_of t) q) (λ t q. IsOfReading A (reading_of t) q) text o p
    (one_of_reading A one (reading_of text) o p) x y

-- the labels of a solution allow one outcome, if all labels do
module _ (P Q : Problem) (protocols : P.protocol ≡ Q.protocol) (names : P.names ≡ Q.names) (A B : List (Option Route) → Outcome → Type 0)
    (one : (labels : List (Option Route)) (o p : Outcome) → A labels o → B labels p → o ≡ p) where
  one_of_labels : (r : Result (List (Option Route)) SolRefusal) (o p : Outcome) → IsOfLabels A r o → IsOfLabels B r p → o ≡ p
  one_of_labels (Ok labels) o p x y = one labels o p x y
  one_of_labels (Err (sol_refusal.At line kind)) o p x y = x ∙ sym y
  one_of_labels (Err sol_refusal.Memory) o p x y = absurd x

  one_reading : (text : List ℕ) → labels_of_text Q.protocol Q.names text ≡ labels_of_text P.protocol P.names text
  one_reading text = λ j. labels_of_text (sym protocols j) (sym names j) text

  pub one_of_solution : (second : Option (List ℕ)) → IsSome second → (o p : Outcome) → IsOfSolution P second A o → IsOfSolution Q second B p → o ≡ p
  one_of_solution second told o p x y =
      one_of_second solution_limit long_solution (IsOfLabelsIn P A) (IsOfLabelsIn Q B) second told o p
      (λ text a b. one_of_labels (labels_of_text P.protocol P.names text) o p a
      (subst (λ (r : Result (List (Option Route)) SolRefusal). IsOfLabels B r p) (one_reading text) b)) x y
