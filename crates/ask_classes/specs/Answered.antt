-- The answer to a question, written, and its verdict.
use Rattle.std.specs.Prelude.{ℕ, Bool, List}
use Rattle.srp_core.specs.Problem.{Problem}
use Rattle.srp_questions.specs.Answers.{IsVerdict}
use Rattle.srp_questions.specs.Questions.{IsTrueIn}
use Rattle.srp_questions.specs.declared.question.Question.{Question}
use Rattle.srp_questions.specs.declared.verdict.Verdict.{Verdict}
use Rattle.solution_answers.specs.Questions.{IsAnswerPart}
use Rattle.solution_answers.specs.Verdicts.{is_yes}
use Rattle.solution_answers.specs.Writing.{Writes}

-- the answer was appended, and this is its verdict
pub record WritesAnswer (shows : Bool) (number : ℕ) (asked : Question) (problem : Problem) (old new : List ℕ) (verdict : Verdict) : Type 0 where
  pub written : Writes (IsAnswerPart shows number asked problem) old new (is_yes verdict)
  pub is : IsVerdict problem (IsTrueIn asked problem) verdict
