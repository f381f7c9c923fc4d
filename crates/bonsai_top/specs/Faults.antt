-- When a fault of the second file is the cause. It is read after the first one, of a class that this one has.
use Rattle.std.specs.Prelude.{◌≡◌, ◌≤◌, ℕ, List, length, Option, Some, None, IfSome, IsSome, Ok}
use Rattle.cfg_ast.specs.declared.network.Network.{Network}
use Rattle.cfg_ast.specs.meaning.Classes.{classes_of}
use Rattle.cfg_ast.specs.text.Reading.{reading_of}
use Rattle.answer_kit.specs.ClassNumbers.{class_at}
use Rattle.answer_kit.specs.Networks.{text_limit}
use Rattle.bonsai_top.specs.declared.command.Command.{Command}
use Rattle.bonsai_top.specs.declared.command.Command.TheVariants as command
use Rattle.bonsai_top.specs.Commands.{SecondRose}

-- the command reads a second file, of a class that the network has
abbrev pub ReadsSecondOf : Command → Network → Type 0
ReadsSecondOf (command.OnNetwork of) network = ⊥
ReadsSecondOf (command.OnClass of number) network = ⊥
ReadsSecondOf (command.OnSecond of number) network = IsSome (class_at (classes_of network) number)
ReadsSecondOf (command.Trial size) network = ⊥

-- the text gives a network of which the command reads a second file
pub record LeadsToSecond (command : Command) (text : List ℕ) : Type 0 where
  pub short : length text ≤ text_limit
  pub network : Network
  pub reads : reading_of text ≡ Ok network
  pub second : ReadsSecondOf command network

abbrev pub IsBeforeSecond : Option Command → List ℕ → Type 0
IsBeforeSecond None text = ⊥
IsBeforeSecond (Some command) text = LeadsToSecond command text

-- The command reads the second file, whose count of faults rose. The first file leads to it, where that one is known.
abbrev pub SecondFailed : Option Command → Option (List ℕ) → ℕ → ℕ → Type 0
SecondFailed command first before now = SecondRose command before now × IfSome first (IsBeforeSecond command)
