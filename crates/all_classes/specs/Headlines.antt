-- THE HEADLINE of each frame: what `compress` or `canon` wrote there compresses the network that was read.
use Rattle.std.specs.Prelude.{◌≡◌, ◌≢◌, ℕ, ◌+◌, Bool, true, false, List, [], ◌∷◌, Option, Some}
use Rattle.io_kit.specs.Ends.{Took, TookPart}
use Rattle.answer_kit.specs.Outcome.{Outcome}
use Rattle.answer_kit.specs.declared.status.Status.TheVariants.{Done}
use Rattle.bonsai_top.specs.declared.command.ClassCommand.{ClassCommand}
use Rattle.bonsai_top.specs.declared.command.ClassCommand.TheVariants as on_class
use Rattle.bonsai_top.specs.Headline.{IsHeadline}
use Rattle.endings.specs.declared.ending.Ending.{Ending}
use Rattle.endings.specs.declared.ending.Ending.TheVariants.{WriteFault}
use Rattle.all_classes.specs.Frames.{frames}

-- the commands that write the compressed network of a class
abbrev pub is_compressing : ClassCommand → Bool
is_compressing on_class.Groups = false
is_compressing on_class.Compress = true
is_compressing on_class.Report = false
is_compressing on_class.Json = false
is_compressing on_class.Canon = true
is_compressing on_class.Certify = false

-- each outcome that is done has bytes that compress the network of the text, for the class of its number
abbrev pub AreHeadlines : List ℕ → ℕ → List Outcome → Type 0
AreHeadlines text number [] = Unit {0}
AreHeadlines text number (o ∷ os) = (o.status ≡ Done → IsHeadline text number [] (Some o.out)) × AreHeadlines text (number + 1) os

-- what was written is a first part of the frames of such outcomes, and all of it if no output failed
pub record HasHeadlines (text : List ℕ) (from : ℕ) (result : Ending) (old new : Option (List ℕ)) : Type 0 where
  pub outcomes : List Outcome
  pub are : AreHeadlines text from outcomes
  pub part : TookPart old new (frames from outcomes)
  pub whole : result ≢ WriteFault → Took old new (frames from outcomes)
