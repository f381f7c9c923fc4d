-- `verify` has one answer to a network, the number of a class and a certificate that is known.
use Rattle.std.specs.Prelude.{◌≡◌, ℕ, List, Option, IsSome}
use Rattle.cfg_ast.specs.declared.network.Network.{Network}
use Rattle.answer_kit.specs.Outcome.{Outcome}
use Rattle.answer_certificates.specs.Verified.{IsVerifyAnswer}

-- two answers of `verify` are equal
abbrev pub VerifyAnswerIsOne : Type 0
VerifyAnswerIsOne = (network : Network) (number : ℕ) (second : Option (List ℕ)) → IsSome second → (o p : Outcome)
    → IsVerifyAnswer network number second o → IsVerifyAnswer network number second p → o ≡ p
