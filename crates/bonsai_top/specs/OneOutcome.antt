-- There is only one outcome, if the files that decide it are known.
use Rattle.std.specs.Prelude.{◌≡◌, ℕ, Bool, true, false, List, Option, Some, None, IsSome}
use Rattle.bonsai_top.specs.declared.command.ClassCommand.TheVariants as on_class
use Rattle.bonsai_top.specs.declared.command.Command.{Command}
use Rattle.bonsai_top.specs.declared.command.Command.TheVariants as command
use Rattle.bonsai_top.specs.Words.{file_of, second_of}
use Rattle.bonsai_top.specs.Commands.{command_of, reads_first, reads_second, is_read}
use Rattle.answer_kit.specs.Outcome.{Outcome}
use Rattle.bonsai_top.specs.Outcomes.{IsOutcome}

-- the files that the command reads are known
pub record AreTold (words : List (List ℕ)) (contents : List ℕ → Option (List ℕ)) : Type 0 where
  pub first : is_read reads_first (command_of words) ≡ true → IsSome (contents (file_of words))
  pub second : is_read reads_second (command_of words) ≡ true → IsSome (contents (second_of words))

-- whether a command may choose what it writes: which certificate `certify` gives is free
abbrev pub is_free : Command → Bool
is_free (command.OnClass on_class.Certify number) = true
is_free other = false

abbrev pub leaves_free : Option Command → Bool
leaves_free None = false
leaves_free (Some command) = is_free command

-- two outcomes that the words allow over files that are known are equal, if nothing is free
abbrev pub OutcomeIsOne : Type 0
OutcomeIsOne = (words : List (List ℕ)) (contents : List ℕ → Option (List ℕ)) → AreTold words contents
    → leaves_free (command_of words) ≡ false → (o p : Outcome) → IsOutcome words contents o → IsOutcome words contents p → o ≡ p
