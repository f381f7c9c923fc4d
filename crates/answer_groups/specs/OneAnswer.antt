-- A command has one answer to a network and the number of a class.
use Rattle.std.specs.Prelude.{◌≡◌, ℕ}
use Rattle.cfg_ast.specs.declared.network.Network.{Network}
use Rattle.answer_kit.specs.Outcome.{Outcome}
use Rattle.answer_groups.specs.CanonText.{IsCanonAnswer}
use Rattle.answer_groups.specs.CompressText.{IsCompressAnswer}
use Rattle.answer_groups.specs.GroupLines.{IsGroupsAnswer}

-- two answers of `groups` are equal
abbrev pub GroupsAnswerIsOne : Type 0
GroupsAnswerIsOne = (network : Network) (number : ℕ) (o p : Outcome) → IsGroupsAnswer network number o → IsGroupsAnswer network number p → o ≡ p

-- two answers of `compress` are equal
abbrev pub CompressAnswerIsOne : Type 0
CompressAnswerIsOne = (network : Network) (number : ℕ) (o p : Outcome) → IsCompressAnswer network number o → IsCompressAnswer network number p → o ≡ p

-- two answers of `canon` are equal
abbrev pub CanonAnswerIsOne : Type 0
CanonAnswerIsOne = (network : Network) (number : ℕ) (o p : Outcome) → IsCanonAnswer network number o → IsCanonAnswer network number p → o ≡ p
