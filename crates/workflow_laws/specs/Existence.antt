-- There is an outcome, and only one except for the choice of a certificate.
use Rattle.std.specs.Prelude.{◌≡◌, ◌≢◌, ◌⊎◌, ℕ, List, Some, Err}
use Rattle.cfg_ast.specs.declared.refusal.ReadRefusal.TheVariants.{Memory}
use Rattle.cfg_ast.specs.text.Reading.{reading_of}
use Rattle.answer_kit.specs.declared.status.Status.TheVariants.{Done}
use Rattle.answer_kit.specs.Outcome.{Outcome}
use Rattle.bonsai_top.specs.Commands.{command_of}
use Rattle.bonsai_top.specs.OneOutcome.{AreTold}
use Rattle.bonsai_top.specs.Outcomes.{IsOutcome}
use Rattle.workflow_laws.specs.Commands.{Certify}
use Rattle.workflow_laws.specs.Setting.{Contents}

-- The words ask for a certificate, and both outcomes are done.
pub record AreCertificates (words : List (List ℕ)) (o p : Outcome) : Type 0 where
  pub number : ℕ
  pub named : command_of words ≡ Some (Certify number)
  pub first_done : o.status ≡ Done
  pub second_done : p.status ≡ Done

-- Two outcomes that words allow over files that are known are equal, or they are two certificates. So each refusal of
-- `certify` is the only outcome that its words allow.
abbrev pub OutcomesAgree : Type 0
OutcomesAgree = (words : List (List ℕ)) (contents : Contents) → AreTold words contents
    → (o p : Outcome) → IsOutcome words contents o → IsOutcome words contents p → (o ≡ p) ⊎ AreCertificates words o p

-- some outcome is allowed
pub record HasOutcome (words : List (List ℕ)) (contents : Contents) : Type 0 where
  pub outcome : Outcome
  pub allowed : IsOutcome words contents outcome

-- Each text is read, or refused for a line and a kind.
abbrev pub EachTextIsJudged : Type 0
EachTextIsJudged = (text : List ℕ) → reading_of text ≢ Err Memory

-- For all words, and for all contents of the files that are known, some outcome is allowed. With
-- `OutcomesAgree` it is the only one, except for the choice of a certificate.
abbrev pub ThereIsAnOutcome : Type 0
ThereIsAnOutcome = (words : List (List ℕ)) (contents : Contents) → AreTold words contents → HasOutcome words contents
