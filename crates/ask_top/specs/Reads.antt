-- Which of the files that the words name are read, and when a fault of one is the cause.
use Rattle.std.specs.Prelude.{◌≡◌, ℕ, Bool, true, false, List, Option, Some, None, IfSome}
use Rattle.cfg_ast.specs.declared.network.Network.{Network}
use Rattle.io_kit.specs.Ends.{Rose}
use Rattle.network_files.specs.NetworkFiles.{HoldsNetwork}
use Rattle.ask_words.specs.declared.request.Command.{Command}
use Rattle.ask_words.specs.declared.request.Command.TheVariants as command

-- words of a form name a network that is read
abbrev pub reads_network : Option Command → Bool
reads_network None = false
reads_network (Some command) = true

-- a file of questions is read too
abbrev pub reads_questions : Option Command → Bool
reads_questions None = false
reads_questions (Some (command.One request)) = false
reads_questions (Some command.Questions) = true

-- the words name a network, and the count of faults of its file rose
abbrev pub NetworkRose : Option Command → ℕ → ℕ → Type 0
NetworkRose command before now = (reads_network command ≡ true) × Rose before now

-- they name a file of questions, and its count rose
abbrev pub QuestionsRose : Option Command → ℕ → ℕ → Type 0
QuestionsRose command before now = (reads_questions command ≡ true) × Rose before now

-- the text gives a network
abbrev pub HoldsSome : List ℕ → Type 0
HoldsSome text = (network : Network) × HoldsNetwork network text

-- The file of questions failed. It is read after the first file, so that holds a network where it is known.
abbrev pub QuestionsFailed : Option Command → Option (List ℕ) → ℕ → ℕ → Type 0
QuestionsFailed command first before now = QuestionsRose command before now × IfSome first HoldsSome
