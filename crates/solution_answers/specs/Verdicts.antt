-- The line of an answer, and when it may say nothing of ties.
use Rattle.std.specs.Prelude.{◌≡◌, ◌≢◌, ℕ, ◌<◌, Bool, true, false, List, [], ◌∷◌, ◌++◌, codes, decimal, Option, Some, None, IfSome}
use Rattle.srp_core.specs.declared.route.Route.{Route}
use Rattle.srp_core.specs.Problem.{Problem, count}
use Rattle.srp_core.specs.Solutions.{AreAllSolutions, HoldsHoweverTiesBreak}
use Rattle.srp_questions.specs.declared.question.Question.{Question}
use Rattle.srp_questions.specs.declared.verdict.Verdict.{Verdict}
use Rattle.srp_questions.specs.declared.verdict.Verdict.TheVariants.{Yes, No, NoSolution}
use Rattle.srp_questions.specs.Answers.{IsVerdict}
use Rattle.srp_questions.specs.Questions.{IsTrueIn}
use Rattle.solution_search.specs.declared.bests.Difference.{Difference}
use Rattle.solution_search.specs.declared.bests.Difference.TheVariants.{Communities, Path}
use Rattle.solution_search.specs.declared.board.Tie.{Tie}
use Rattle.solution_answers.specs.RouterNames.{name_at}

abbrev pub verdict_word : Verdict → List ℕ
verdict_word Yes = codes "yes"
verdict_word No = codes "no"
verdict_word NoSolution = codes "none"

abbrev pub is_yes : Verdict → Bool
is_yes Yes = true
is_yes No = false
is_yes NoSolution = false

abbrev pub difference_word : Difference → List ℕ
difference_word Communities = codes "communities"
difference_word Path = codes "path"

-- a router that is tied, and in what two of its offers differ
abbrev pub tie_words : List (List ℕ) → Tie → List ℕ
tie_words names tie = codes " tied " ++ name_at names tie.router ++ codes " " ++ difference_word tie.by

abbrev pub tied_words : List (List ℕ) → Option Tie → List ℕ
tied_words names None = []
tied_words names (Some tie) = tie_words names tie

-- `class N VERDICT`, and behind it the tie that is reported
unfoldable pub answer_line : List (List ℕ) → ℕ → Verdict → Option Tie → List ℕ
answer_line names number verdict tied = codes "class " ++ decimal number ++ codes " " ++ verdict_word verdict ++ tied_words names tied ++ 10 ∷ []

-- However ties are broken, routers come to one of the solutions.
pub record IsTieless (problem : Problem) : Type 0 where
  pub found : List (List (Option Route))
  pub are : AreAllSolutions problem found
  pub holds : HoldsHoweverTiesBreak problem found

-- A tie is reported behind no `no`; and where none is reported behind `yes` or `none`, ties do not matter.
pub record IsTold (problem : Problem) (verdict : Verdict) (tied : Option Tie) : Type 0 where
  pub unasked : verdict ≡ No → tied ≡ None
  pub tieless : verdict ≢ No → tied ≡ None → IsTieless problem
  pub router : IfSome tied (λ t. t.router < count problem)

-- the answer to a question, and the tie that is reported with it
pub record IsAnswer (problem : Problem) (asked : Question) (verdict : Verdict) (tied : Option Tie) : Type 0 where
  pub is : IsVerdict problem (IsTrueIn asked problem) verdict
  pub told : IsTold problem verdict tied
