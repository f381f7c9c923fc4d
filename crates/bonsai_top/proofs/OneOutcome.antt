-- There is only one outcome, if the files that decide it are known.
use Rattle.std.proofs.Common.{◌≡◌, ℕ, Bool, true, false, List, refl, sym, ◌∙◌, Option, Some, None}
use Rattle.std.specs.Prelude.{IsSome}
use Rattle.cfg_ast.specs.declared.network.Network.{Network}
use Rattle.answer_groups.specs.OneAnswer.{GroupsAnswerIsOne, CompressAnswerIsOne, CanonAnswerIsOne}
use Rattle.answer_solutions.specs.OneAnswer.{CheckAnswerIsOne, FoldAnswerIsOne, LiftAnswerIsOne}
use Rattle.answer_reports.specs.OneAnswer.{ReportAnswerIsOne, JsonAnswerIsOne, SummaryAnswerIsOne, TrialAnswerIsOne}
use Rattle.answer_runs.specs.OneAnswer.{RunAnswerIsOne, ReachAnswerIsOne}
use Rattle.answer_certificates.specs.OneAnswer.{VerifyAnswerIsOne}
use Rattle.bonsai_top.specs.declared.command.NetworkCommand.{NetworkCommand}
use Rattle.bonsai_top.specs.declared.command.NetworkCommand.TheVariants as on_network
use Rattle.bonsai_top.specs.declared.command.ClassCommand.{ClassCommand}
use Rattle.bonsai_top.specs.declared.command.ClassCommand.TheVariants as on_class
use Rattle.bonsai_top.specs.declared.command.SecondCommand.{SecondCommand}
use Rattle.bonsai_top.specs.declared.command.SecondCommand.TheVariants as on_second
use Rattle.bonsai_top.specs.declared.command.Command.{Command}
use Rattle.bonsai_top.specs.declared.command.Command.TheVariants as command
use Rattle.bonsai_top.specs.Commands.{command_of, reads_first, reads_second, is_read}
use Rattle.bonsai_top.specs.OneOutcome.{is_free, leaves_free, OutcomeIsOne}
use Rattle.answer_kit.specs.Outcome.{Outcome}
use Rattle.answer_kit.proofs.OneText.{one_of_network}
use Rattle.bonsai_top.specs.Outcomes.{IsOnNetwork, IsAnswerTo, IsOutcomeOfText, IsOutcomeOfFiles, IsOutcomeWithoutFiles, IsOutcomeBy, IsOutcomeAt, IsOutcome}
use Rattle.bonsai_top.specs.Words.{file_of, second_of}

-- the second file is known, if the command reads it
abbrev IsToldTo : Command → Option (List ℕ) → Type 0
IsToldTo command second = reads_second command ≡ true → IsSome second

-- the laws of the commands
module _ (groups : GroupsAnswerIsOne) (compress : CompressAnswerIsOne) (canon : CanonAnswerIsOne) (check : CheckAnswerIsOne) (fold : FoldAnswerIsOne)
    (lift : LiftAnswerIsOne) (verify : VerifyAnswerIsOne) (run : RunAnswerIsOne) (reach : ReachAnswerIsOne) (report : ReportAnswerIsOne)
    (json : JsonAnswerIsOne) (summary : SummaryAnswerIsOne) (trial : TrialAnswerIsOne) where
  one_on_network : (of : NetworkCommand) (n : Network) (o p : Outcome) → IsOnNetwork of n o → IsOnNetwork of n p → o ≡ p
  one_on_network on_network.Classes n o p x y = x ∙ sym y
  one_on_network on_network.Summary n o p x y = summary n o p x y

  one_on_class : (of : ClassCommand) (number : ℕ) → is_free (command.OnClass of number) ≡ false → (n : Network) (second : Option (List ℕ)) (o p : Outcome)
      → IsAnswerTo (command.OnClass of number) n second o → IsAnswerTo (command.OnClass of number) n second p → o ≡ p
  one_on_class on_class.Groups number fixed n second o p x y = groups n number o p x y
  one_on_class on_class.Compress number fixed n second o p x y = compress n number o p x y
  one_on_class on_class.Report number fixed n second o p x y = report n number o p x y
  one_on_class on_class.Json number fixed n second o p x y = json n number o p x y
  one_on_class on_class.Canon number fixed n second o p x y = canon n number o p x y
  one_on_class on_class.Certify number fixed n second o p x y = absurd cc

  one_on_second : (of : SecondCommand) (number : ℕ) (n : Network) (second : Option (List ℕ)) → IsSome second → (o p : Outcome)
      → IsAnswerTo (command.OnSecond of number) n second o → IsAnswerTo (command.OnSecond of number) n second p → o ≡ p
  one_on_second on_second.Check number n second told o p x y = check n number second told o p x y
  one_on_second on_second.Fold number n second told o p x y = fold n number second told o p x y
  one_on_second on_second.Lift number n second told o p x y = lift n number second told o p x y
  one_on_second on_second.Run number n second told o p x y = run n number second told o p x y
  one_on_second on_second.Reach number n second told o p x y = reach n number second told o p x y
  one_on_second on_second.Verify number n second told o p x y = verify n number second told o p x y

  one_answer : (command : Command) → is_free command ≡ false → (n : Network) (second : Option (List ℕ)) → IsToldTo command second → (o p : Outcome)
      → IsAnswerTo command n second o → IsAnswerTo command n second p → o ≡ p
  one_answer (command.OnNetwork of) fixed n second told o p x y = one_on_network of n o p x y
  one_answer (command.OnClass of number) fixed n second told o p x y = one_on_class of number fixed n second o p x y
  one_answer (command.OnSecond of number) fixed n second told o p x y = one_on_second of number n second (told refl) o p x y
  one_answer (command.Trial size) fixed n second told o p x y = trial size o p x y

  one_of_text : (command : Command) → is_free command ≡ false → (second : Option (List ℕ)) → IsToldTo command second → (text : List ℕ) (o p : Outcome)
      → IsOutcomeOfText command second text o → IsOutcomeOfText command second text p → o ≡ p
  one_of_text command fixed second told = one_of_network (λ n o. IsAnswerTo command n second o) (λ n. one_answer command fixed n second told)

  one_of_files : (command : Command) → is_free command ≡ false → (first second : Option (List ℕ)) → IsSome first → IsToldTo command second → (o p : Outcome)
      → IsOutcomeOfFiles command first second o → IsOutcomeOfFiles command first second p → o ≡ p
  one_of_files command fixed None second told_first told o p x y = cc
  one_of_files command fixed (Some text) second told_first told o p x y = one_of_text command fixed second told text o p x y

  one_without_files : (command : Command) (o p : Outcome) → IsOutcomeWithoutFiles command o → IsOutcomeWithoutFiles command p → o ≡ p
  one_without_files (command.Trial size) o p x y = trial size o p x y
  one_without_files (command.OnNetwork of) o p x y = absurd x
  one_without_files (command.OnClass of number) o p x y = absurd x
  one_without_files (command.OnSecond of number) o p x y = absurd x

  one_by : (reads : Bool) (command : Command) → is_free command ≡ false → reads_first command ≡ reads → (first second : Option (List ℕ))
      → (reads ≡ true → IsSome first) → IsToldTo command second → (o p : Outcome) → IsOutcomeBy reads command first second o
      → IsOutcomeBy reads command first second p → o ≡ p
  one_by true command fixed is first second told_first told o p x y = one_of_files command fixed first second (told_first refl) told o p x y
  one_by false command fixed is first second told_first told o p x y = one_without_files command o p x y

  one_at : (command : Option Command) → leaves_free command ≡ false → (first second : Option (List ℕ)) → (is_read reads_first command ≡ true → IsSome first)
      → (is_read reads_second command ≡ true → IsSome second) → (o p : Outcome) → IsOutcomeAt command first second o → IsOutcomeAt command first second p
      → o ≡ p
  one_at None fixed first second told_first told o p x y = x ∙ sym y
  one_at (Some command) fixed first second told_first told o p x y = one_by (reads_first command) command fixed refl first second told_first told o p x y

  pub outcome_is_one : OutcomeIsOne
  unfolding IsOutcome
  outcome_is_one words contents told fixed o p x y = one_at (command_of words) fixed (contents (file_of words)) (contents (second_of words)) told.first
      told.second o p x y
