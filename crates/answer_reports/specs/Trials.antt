-- The output of the command `trial`: the summary of the fat tree of a size.
use Rattle.std.specs.Prelude.{◌≡◌, ℕ, Bool, true, false, List, ◌++◌, codes, decimal}
use Rattle.fat_gen.specs.FatTrees.{is_size, fat_tree_text}
use Rattle.answer_kit.specs.Networks.{IsOfNetworkIn}
use Rattle.answer_kit.specs.Outcome.{Outcome, refused}
use Rattle.answer_reports.specs.Summaries.{IsSummaryAnswer}

-- the summary of the network that a text gives, or the refusal of the text
abbrev pub IsSummaryOfText : List ℕ → Outcome → Type 0
IsSummaryOfText = IsOfNetworkIn IsSummaryAnswer

-- the reason of a refusal where there is no fat tree of this size
abbrev pub bad_size : ℕ → List ℕ
bad_size size = codes "BadSize " ++ decimal size

abbrev pub IsTrialBy : Bool → ℕ → Outcome → Type 0
IsTrialBy true size o = IsSummaryOfText (fat_tree_text size) o
IsTrialBy false size o = o ≡ refused (bad_size size)

-- what `trial` is to write of a size
abbrev pub IsTrialAnswer : ℕ → Outcome → Type 0
IsTrialAnswer size = IsTrialBy (is_size size) size
