-- What is known once some solutions have been seen.
use Rattle.std.specs.Prelude.{◌≡◌, ℕ, Bool, true, false, not, All, List, [], if◌then◌else◌, Option, None, IfSome, Contains, Vec}
use Rattle.std.specs.Option.{is_some}
use Rattle.std.specs.declared.alloc.Global.{Global}
use Rattle.srp_core.specs.declared.route.Route.{Route}
use Rattle.srp_core.specs.Problem.{Problem}
use Rattle.srp_core.specs.Stability.{IsStable}
use Rattle.solution_text.specs.Printed.{labels_text}
use Rattle.srp_questions.specs.declared.question.Question.{Question}
use Rattle.srp_questions.specs.Questions.{IsTrueIn}

-- stable labels in which the question is false, and their text, if it is to be shown
pub record IsFailure (problem : Problem) (asked : Question) (shows : Bool) (text : List ℕ) : Type 0 where
  pub labels : List (Option Route)
  pub stable : IsStable problem labels
  pub fails : ¬ IsTrueIn asked problem labels
  pub text_is : text ≡ (if shows then labels_text problem.names labels else [])

-- some of these were seen, and the question is true in each of them, or false in some labels that were seen
pub record HasAsked (problem : Problem) (asked : Question) (shows some : Bool) (failed : Option (Vec ℕ Global)) (found : List (List (Option Route))) : Type 0 where
  pub none : some ≡ false → found ≡ []
  pub any : some ≡ true → (labels : List (Option Route)) × Contains found labels
  pub holds : failed ≡ None → All (IsTrueIn asked problem) found
  pub fails : IfSome failed (λ text. IsFailure problem asked shows text.items)

-- nothing has failed yet
abbrev pub wants_more : Option (Vec ℕ Global) → Bool
wants_more failed = not (is_some failed)
