-- What `fold` and `lift` write is read as labels that are stable in the other problem and correspond.
use Rattle.std.specs.Prelude.{◌≡◌, ℕ, List, Option, Some, Ok}
use Rattle.cfg_ast.specs.declared.network.Network.{Network}
use Rattle.cfg_ast.specs.declared.classes.DestClass.{DestClass}
use Rattle.cfg_ast.specs.meaning.Classes.{classes_of}
use Rattle.cfg_ast.specs.text.Reading.{IsGiven}
use Rattle.cfg_check.specs.Faultless.{IsFaultless}
use Rattle.srp_core.specs.declared.route.Route.{Route}
use Rattle.srp_core.specs.Quotient.{IsQuotient, Corresponds}
use Rattle.srp_core.specs.Stability.{IsStable}
use Rattle.solution_text.specs.Solutions.{labels_of_text}
use Rattle.answer_kit.specs.Outcome.{done}
use Rattle.answer_kit.specs.ClassNumbers.{class_at}
use Rattle.answer_solutions.specs.declared.sides.Sides.{Sides}
use Rattle.answer_solutions.specs.Carries.{AreSides, IsFoldAnswer, IsLiftAnswer}

-- The class of the number has these groups, and the problem of the groups is the quotient. The text gives
-- stable labels of the routers, the bytes stable labels of the groups, and they correspond.
pub record IsReadAsFold (network : Network) (number : ℕ) (text bytes : List ℕ) : Type 0 where
  pub class : DestClass
  pub class_is : class_at (classes_of network) number ≡ Some class
  pub sides : Sides
  pub are : AreSides network class sides
  pub quotient : IsQuotient sides.problem sides.groups sides.small
  pub labels : List (Option Route)
  pub lower : List (Option Route)
  pub read : labels_of_text sides.problem.protocol sides.problem.names text ≡ Ok labels
  pub reads : labels_of_text sides.small.protocol sides.small.names bytes ≡ Ok lower
  pub stable : IsStable sides.problem labels
  pub stable_below : IsStable sides.small lower
  pub correspond : Corresponds sides.problem sides.small sides.groups labels lower

-- the same, where the text gives the labels of the groups, and the bytes those of the routers
pub record IsReadAsLift (network : Network) (number : ℕ) (text bytes : List ℕ) : Type 0 where
  pub class : DestClass
  pub class_is : class_at (classes_of network) number ≡ Some class
  pub sides : Sides
  pub are : AreSides network class sides
  pub quotient : IsQuotient sides.problem sides.groups sides.small
  pub lower : List (Option Route)
  pub labels : List (Option Route)
  pub read : labels_of_text sides.small.protocol sides.small.names text ≡ Ok lower
  pub reads : labels_of_text sides.problem.protocol sides.problem.names bytes ≡ Ok labels
  pub stable : IsStable sides.small lower
  pub stable_above : IsStable sides.problem labels
  pub correspond : Corresponds sides.problem sides.small sides.groups labels lower

abbrev pub FoldIsReadBack : Type 0
FoldIsReadBack = (network : Network) → ∥ IsGiven network ∥₁ → IsFaultless network → (number : ℕ) (text bytes : List ℕ)
    → IsFoldAnswer network number (Some text) (done bytes) → IsReadAsFold network number text bytes

abbrev pub LiftIsReadBack : Type 0
LiftIsReadBack = (network : Network) → ∥ IsGiven network ∥₁ → IsFaultless network → (number : ℕ) (text bytes : List ℕ)
    → IsLiftAnswer network number (Some text) (done bytes) → IsReadAsLift network number text bytes
