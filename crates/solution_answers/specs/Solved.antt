-- What is found of a question about a problem.
use Rattle.std.specs.Prelude.{Bool}
use Rattle.srp_core.specs.Problem.{Problem}
use Rattle.srp_questions.specs.declared.question.Question.{Question}
use Rattle.solution_answers.specs.declared.answering.Answer.{Answer}
use Rattle.solution_answers.specs.Questions.{IsShown}
use Rattle.solution_answers.specs.Verdicts.{IsAnswer}

-- the answer, the tie that it hangs on, and the text of labels behind `no`, if these are to be shown
pub record IsSolved (problem : Problem) (asked : Question) (shows : Bool) (found : Answer) : Type 0 where
  pub answer : IsAnswer problem asked found.verdict found.tie
  pub shown : IsShown shows found.verdict problem asked found.shown.items
