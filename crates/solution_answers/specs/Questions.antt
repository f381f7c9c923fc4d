-- The answer to a question for one class.
use Rattle.std.specs.Prelude.{◌≡◌, ℕ, Bool, true, false, List, [], ◌++◌, Option}
use Rattle.srp_core.specs.declared.route.Route.{Route}
use Rattle.srp_core.specs.Problem.{Problem}
use Rattle.srp_core.specs.Stability.{IsStable}
use Rattle.solution_text.specs.Printed.{labels_text}
use Rattle.srp_questions.specs.declared.question.Question.{Question}
use Rattle.srp_questions.specs.declared.verdict.Verdict.{Verdict}
use Rattle.srp_questions.specs.declared.verdict.Verdict.TheVariants.{Yes, No, NoSolution}
use Rattle.srp_questions.specs.Questions.{IsTrueIn}
use Rattle.solution_search.specs.declared.board.Tie.{Tie}
use Rattle.solution_answers.specs.Parts.{Part}
use Rattle.solution_answers.specs.Verdicts.{is_yes, answer_line, IsAnswer}

-- the text of stable labels in which the question is false
pub record IsWitness (problem : Problem) (asked : Question) (text : List ℕ) : Type 0 where
  pub labels : List (Option Route)
  pub stable : IsStable problem labels
  pub fails : ¬ IsTrueIn asked problem labels
  pub text_is : text ≡ labels_text problem.names labels

-- where labels are to be shown, they stand behind `no`
abbrev pub IsShown : Bool → Verdict → Problem → Question → List ℕ → Type 0
IsShown true No problem asked text = IsWitness problem asked text
IsShown true Yes problem asked text = text ≡ []
IsShown true NoSolution problem asked text = text ≡ []
IsShown false verdict problem asked text = text ≡ []

-- the line of the answer, and the labels behind it
pub record IsAnswerPart (shows : Bool) (number : ℕ) (asked : Question) (problem : Problem) (part : Part) : Type 0 where
  pub verdict : Verdict
  pub tied : Option Tie
  pub answer : IsAnswer problem asked verdict tied
  pub text : List ℕ
  pub shown : IsShown shows verdict problem asked text
  pub bytes : part.bytes ≡ answer_line problem.names number verdict tied ++ text
  pub all : part.all ≡ is_yes verdict
