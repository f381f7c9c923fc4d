-- What `fold` writes, and what `lift` takes, is a stable solution of the network that `compress` writes.
use Rattle.std.specs.Prelude.{◌≡◌, ℕ, List, Option, Some, Ok, Contains}
use Rattle.base_kit.specs.Prefixes.{Prefix}
use Rattle.cfg_ast.specs.declared.network.Network.{Network}
use Rattle.cfg_ast.specs.declared.classes.DestClass.{DestClass}
use Rattle.cfg_ast.specs.meaning.Classes.{classes_of}
use Rattle.cfg_ast.specs.text.Reading.{IsGiven, reading_of}
use Rattle.cfg_check.specs.Faultless.{IsFaultless}
use Rattle.srp_core.specs.declared.route.Route.{Route}
use Rattle.srp_core.specs.Problem.{Problem}
use Rattle.srp_core.specs.ProblemOf.{IsProblemOf}
use Rattle.srp_core.specs.Stability.{IsStable}
use Rattle.solution_text.specs.Solutions.{labels_of_text}
use Rattle.answer_kit.specs.Outcome.{done}
use Rattle.answer_kit.specs.ClassNumbers.{class_at}
use Rattle.answer_groups.specs.CompressText.{IsCompressAnswer}
use Rattle.answer_solutions.specs.Carries.{IsFoldAnswer, IsLiftAnswer}

-- the text gives stable labels of the problem
pub record IsStableText (problem : Problem) (solution : List ℕ) : Type 0 where
  pub labels : List (Option Route)
  pub reads : labels_of_text problem.protocol problem.names solution ≡ Ok labels
  pub stable : IsStable problem labels

-- The configurations are read as a network that has a problem for each prefix of the class, and the solution gives
-- stable labels of each such problem.
pub record Solves (solution configurations : List ℕ) (class : DestClass) : Type 0 where
  pub read : Network
  pub reads : reading_of configurations ≡ Ok read
  pub problem : (p : Prefix) → Contains class.prefixes p → (problem : Problem) × IsProblemOf read p problem
  pub stable : (p : Prefix) → Contains class.prefixes p → (problem : Problem) → IsProblemOf read p problem → IsStableText problem solution

-- the same for the class of a number
pub record SolvesClass (network : Network) (number : ℕ) (solution configurations : List ℕ) : Type 0 where
  pub class : DestClass
  pub class_is : class_at (classes_of network) number ≡ Some class
  pub solves : Solves solution configurations class

-- What `fold` writes of a solution solves what `compress` writes of the class.
abbrev pub FoldSolvesCompressed : Type 0
FoldSolvesCompressed = (network : Network) → ∥ IsGiven network ∥₁ → IsFaultless network → (number : ℕ) (solution written configurations : List ℕ)
    → IsCompressAnswer network number (done configurations) → IsFoldAnswer network number (Some solution) (done written) → SolvesClass network number written configurations

-- A solution that `lift` takes solves what `compress` writes of the class.
abbrev pub LiftTakesCompressed : Type 0
LiftTakesCompressed = (network : Network) → ∥ IsGiven network ∥₁ → IsFaultless network → (number : ℕ) (solution written configurations : List ℕ)
    → IsCompressAnswer network number (done configurations) → IsLiftAnswer network number (Some solution) (done written) → SolvesClass network number solution configurations
