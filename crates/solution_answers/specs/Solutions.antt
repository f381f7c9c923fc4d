-- How many solutions a class has, and which.
use Rattle.std.specs.Prelude.{◌≡◌, ℕ, Bool, true, List, [], ◌∷◌, ◌++◌, codes, decimal, flat_map, length, if◌then◌else◌, Option}
use Rattle.std.specs.List.{enumerate_from}
use Rattle.srp_core.specs.declared.route.Route.{Route}
use Rattle.srp_core.specs.Problem.{Problem}
use Rattle.srp_core.specs.Solutions.{AreAllSolutions}
use Rattle.solution_text.specs.Printed.{labels_text}
use Rattle.srp_questions.specs.NextHops.{AreNextHops}
use Rattle.solution_answers.specs.Forwarding.{hops_text}
use Rattle.solution_answers.specs.Pairwise.{Pairwise}
use Rattle.solution_answers.specs.Parts.{Part}

-- `class N solutions K`
abbrev pub count_line : ℕ → ℕ → List ℕ
count_line number count = codes "class " ++ decimal number ++ codes " solutions " ++ decimal count ++ 10 ∷ []

-- how many solutions a problem has
pub record IsCountPart (number : ℕ) (problem : Problem) (part : Part) : Type 0 where
  pub found : List (List (Option Route))
  pub are : AreAllSolutions problem found
  pub bytes : part.bytes ≡ count_line number (length found)
  pub all : part.all ≡ true

-- `solution I`, behind the class unless it is the only one that is asked
abbrev pub solution_head : Bool → ℕ → ℕ → List ℕ
solution_head one number index = (if one then [] else codes "class " ++ decimal number ++ codes " ") ++ codes "solution " ++ decimal index ++ 10 ∷ []

-- the head of a solution, and its text behind it
abbrev pub solution_text : Bool → ℕ → ℕ × List ℕ → List ℕ
solution_text one number (index, text) = solution_head one number index ++ text

-- the texts of solutions, counted from 1
abbrev pub solution_texts : Bool → ℕ → List (List ℕ) → List ℕ
solution_texts one number texts = flat_map (solution_text one number) (enumerate_from 1 texts)

-- the labels of all routers
abbrev pub IsLabelsText : Problem → List (Option Route) → List ℕ → Type 0
IsLabelsText problem labels text = text ≡ labels_text problem.names labels

-- whom all routers forward to
pub record IsHopsText (problem : Problem) (labels : List (Option Route)) (text : List ℕ) : Type 0 where
  pub hops : List (List ℕ)
  pub are : AreNextHops problem labels hops
  pub text_is : text ≡ hops_text problem.names labels hops

-- each solution of a problem, reported as such
pub record IsSolutionsPart (IsText : Problem → List (Option Route) → List ℕ → Type 0) (one : Bool) (number : ℕ) (problem : Problem) (part : Part) : Type 0 where
  pub found : List (List (Option Route))
  pub are : AreAllSolutions problem found
  pub texts : List (List ℕ)
  pub told : Pairwise (IsText problem) found texts
  pub bytes : part.bytes ≡ solution_texts one number texts
  pub all : part.all ≡ true
