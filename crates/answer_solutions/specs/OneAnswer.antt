-- A command has one answer to a network, the number of a class and a solution that is known.
use Rattle.std.specs.Prelude.{◌≡◌, ℕ, List, Option, IsSome}
use Rattle.cfg_ast.specs.declared.network.Network.{Network}
use Rattle.answer_kit.specs.Outcome.{Outcome}
use Rattle.answer_solutions.specs.Carries.{IsFoldAnswer, IsLiftAnswer}
use Rattle.answer_solutions.specs.Checks.{IsCheckAnswer}

-- two answers of `check` are equal
abbrev pub CheckAnswerIsOne : Type 0
CheckAnswerIsOne = (network : Network) (number : ℕ) (second : Option (List ℕ)) → IsSome second → (o p : Outcome)
    → IsCheckAnswer network number second o → IsCheckAnswer network number second p → o ≡ p

-- and so are two of `fold`
abbrev pub FoldAnswerIsOne : Type 0
FoldAnswerIsOne = (network : Network) (number : ℕ) (second : Option (List ℕ)) → IsSome second → (o p : Outcome)
    → IsFoldAnswer network number second o → IsFoldAnswer network number second p → o ≡ p

-- and two of `lift`
abbrev pub LiftAnswerIsOne : Type 0
LiftAnswerIsOne = (network : Network) (number : ℕ) (second : Option (List ℕ)) → IsSome second → (o p : Outcome)
    → IsLiftAnswer network number second o → IsLiftAnswer network number second p → o ≡ p
