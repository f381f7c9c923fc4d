-- A command has one answer to a network, the number of a class and a second file that is known.
use Rattle.std.specs.Prelude.{◌≡◌, ℕ, List, Option, IsSome}
use Rattle.cfg_ast.specs.declared.network.Network.{Network}
use Rattle.answer_kit.specs.Outcome.{Outcome}
use Rattle.answer_runs.specs.Reaches.{IsReachAnswer}
use Rattle.answer_runs.specs.Schedules.{IsRunAnswer}

-- two answers of `run` are equal
abbrev pub RunAnswerIsOne : Type 0
RunAnswerIsOne = (network : Network) (number : ℕ) (second : Option (List ℕ)) → IsSome second → (o p : Outcome)
    → IsRunAnswer network number second o → IsRunAnswer network number second p → o ≡ p

-- two answers of `reach` are equal
abbrev pub ReachAnswerIsOne : Type 0
ReachAnswerIsOne = (network : Network) (number : ℕ) (second : Option (List ℕ)) → IsSome second → (o p : Outcome)
    → IsReachAnswer network number second o → IsReachAnswer network number second p → o ≡ p
