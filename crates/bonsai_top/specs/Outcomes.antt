-- The outcomes that the words allow over the contents of the files.
use Rattle.std.specs.Prelude.{◌≡◌, ℕ, Bool, true, false, List, Option, Some, None, IfSome, Result}
use Rattle.cfg_ast.specs.declared.classes.DestClass.{DestClass}
use Rattle.cfg_ast.specs.declared.network.Network.{Network}
use Rattle.cfg_ast.specs.declared.refusal.ReadRefusal.{ReadRefusal}
use Rattle.cfg_ast.specs.meaning.Classes.{classes_of}
use Rattle.bonsai_top.specs.declared.command.NetworkCommand.{NetworkCommand}
use Rattle.bonsai_top.specs.declared.command.NetworkCommand.TheVariants as on_network
use Rattle.bonsai_top.specs.declared.command.ClassCommand.{ClassCommand}
use Rattle.bonsai_top.specs.declared.command.ClassCommand.TheVariants as on_class
use Rattle.bonsai_top.specs.declared.command.SecondCommand.{SecondCommand}
use Rattle.bonsai_top.specs.declared.command.SecondCommand.TheVariants as on_second
use Rattle.bonsai_top.specs.declared.command.Command.{Command}
use Rattle.bonsai_top.specs.declared.command.Command.TheVariants as command
use Rattle.bonsai_top.specs.Words.{file_of, second_of}
use Rattle.bonsai_top.specs.Commands.{command_of, reads_first}
use Rattle.answer_kit.specs.ClassNumbers.{class_at, IsOfClass}
pub use Rattle.answer_kit.specs.Networks.{text_limit}
use Rattle.answer_kit.specs.Networks.{IsOfReading, IsOfNetworkIn}
use Rattle.answer_kit.specs.Outcome.{Outcome, done, usage}
use Rattle.answer_certificates.specs.Certified.{IsCertifyOf}
use Rattle.answer_certificates.specs.Verified.{IsVerifyOf}
use Rattle.answer_groups.specs.CanonText.{IsCanonOf}
use Rattle.answer_groups.specs.ClassLines.{classes_text}
use Rattle.answer_groups.specs.CompressText.{IsCompressOf}
use Rattle.answer_groups.specs.GroupLines.{IsGroupsOf}
use Rattle.answer_reports.specs.ReportAnswers.{IsReported}
use Rattle.answer_reports.specs.Summaries.{IsSummaryAnswer}
use Rattle.answer_reports.specs.Trials.{IsTrialAnswer}
use Rattle.answer_runs.specs.Reaches.{IsReachOf}
use Rattle.answer_runs.specs.Schedules.{IsRunOf}
use Rattle.answer_solutions.specs.Carries.{IsFoldOf, IsLiftOf}
use Rattle.answer_solutions.specs.Checks.{IsCheckOf}
use Rattle.group_report.specs.Reports.{report_text}
use Rattle.group_report.specs.JsonText.{json_text}

-- what a command is to write of a network
abbrev pub IsOnNetwork : NetworkCommand → Network → Outcome → Type 0
IsOnNetwork on_network.Classes network o = o ≡ done (classes_text network)
IsOnNetwork on_network.Summary network o = IsSummaryAnswer network o

-- what a command is to write of a class, which has this number
abbrev pub IsOnClass : ClassCommand → Network → ℕ → DestClass → Outcome → Type 0
IsOnClass on_class.Groups network number = IsGroupsOf network
IsOnClass on_class.Compress network number = IsCompressOf network
IsOnClass on_class.Report network number = IsReported report_text network number
IsOnClass on_class.Json network number = IsReported json_text network number
IsOnClass on_class.Canon network number = IsCanonOf network
IsOnClass on_class.Certify network number = IsCertifyOf network

-- what a command is to write of a class, with the second file where it is known
abbrev pub IsOnSecond : SecondCommand → Network → Option (List ℕ) → DestClass → Outcome → Type 0
IsOnSecond on_second.Check network second = IsCheckOf network second
IsOnSecond on_second.Fold network second = IsFoldOf network second
IsOnSecond on_second.Lift network second = IsLiftOf network second
IsOnSecond on_second.Run network second = IsRunOf network second
IsOnSecond on_second.Reach network second = IsReachOf network second
IsOnSecond on_second.Verify network second = IsVerifyOf network second

-- what a command is to write of a network, with the second file where it is known
abbrev pub IsAnswerTo : Command → Network → Option (List ℕ) → Outcome → Type 0
IsAnswerTo (command.OnNetwork of) network second o = IsOnNetwork of network o
IsAnswerTo (command.OnClass of number) network second o = IsOfClass (class_at (classes_of network) number) number (IsOnClass of network number) o
IsAnswerTo (command.OnSecond of number) network second o = IsOfClass (class_at (classes_of network) number) number (IsOnSecond of network second) o
IsAnswerTo (command.Trial size) network second o = IsTrialAnswer size o

-- the answer of a network, or the line and kind that refuse the text
abbrev pub IsOutcomeOfReading : Command → Option (List ℕ) → Result Network ReadRefusal → Outcome → Type 0
IsOutcomeOfReading command second = IsOfReading (λ network o. IsAnswerTo command network second o)

-- a command over the text of its first file
abbrev pub IsOutcomeOfText : Command → Option (List ℕ) → List ℕ → Outcome → Type 0
IsOutcomeOfText command second = IsOfNetworkIn (λ network o. IsAnswerTo command network second o)

-- a command over its files; one that decides and is not known allows any outcome
abbrev pub IsOutcomeOfFiles : Command → Option (List ℕ) → Option (List ℕ) → Outcome → Type 0
IsOutcomeOfFiles command first second o = IfSome first (λ text. IsOutcomeOfText command second text o)

-- what the one command that reads no file is to write
abbrev pub IsOutcomeWithoutFiles : Command → Outcome → Type 0
IsOutcomeWithoutFiles (command.Trial size) o = IsTrialAnswer size o
IsOutcomeWithoutFiles other o = ⊥

abbrev pub IsOutcomeBy : Bool → Command → Option (List ℕ) → Option (List ℕ) → Outcome → Type 0
IsOutcomeBy true command first second o = IsOutcomeOfFiles command first second o
IsOutcomeBy false command first second o = IsOutcomeWithoutFiles command o

-- a command, by whether it reads a file
abbrev pub IsOutcomeOf : Command → Option (List ℕ) → Option (List ℕ) → Outcome → Type 0
IsOutcomeOf command first second o = IsOutcomeBy (reads_first command) command first second o

abbrev pub IsOutcomeAt : Option Command → Option (List ℕ) → Option (List ℕ) → Outcome → Type 0
IsOutcomeAt None first second o = o ≡ usage
IsOutcomeAt (Some command) first second o = IsOutcomeOf command first second o

-- What the words allow over the contents of the files, as far as these are known.
unfoldable pub IsOutcome : List (List ℕ) → (List ℕ → Option (List ℕ)) → Outcome → Type 0
IsOutcome words contents o = IsOutcomeAt (command_of words) (contents (file_of words)) (contents (second_of words)) o
