-- The commands, by the words that name them, and which of the files that the words name each of them reads.
use Rattle.std.specs.Prelude.{◌≡◌, ℕ, Bool, true, false, List, [], ◌∷◌, codes, Option, Some, None, if◌then◌else◌}
use Rattle.std.specs.Str.{bytes_eq}
use Rattle.std.specs.Option.{option_map, option_and_then}
use Rattle.io_kit.specs.Ends.{Rose}
use Rattle.bonsai_top.specs.declared.command.NetworkCommand.{NetworkCommand}
use Rattle.bonsai_top.specs.declared.command.NetworkCommand.TheVariants as on_network
use Rattle.bonsai_top.specs.declared.command.ClassCommand.{ClassCommand}
use Rattle.bonsai_top.specs.declared.command.ClassCommand.TheVariants as on_class
use Rattle.bonsai_top.specs.declared.command.SecondCommand.{SecondCommand}
use Rattle.bonsai_top.specs.declared.command.SecondCommand.TheVariants as on_second
use Rattle.bonsai_top.specs.declared.command.Command.{Command}
use Rattle.bonsai_top.specs.declared.command.Command.TheVariants as command
use Rattle.bonsai_top.specs.Words.{short_number_of}

-- the commands on a network
abbrev pub network_command : List ℕ → Option NetworkCommand
network_command name =
    if bytes_eq name (codes "classes") then Some on_network.Classes else
    (if bytes_eq name (codes "summary") then Some on_network.Summary else None)

-- the commands on a class
abbrev pub class_command : List ℕ → Option ClassCommand
class_command name =
    if bytes_eq name (codes "groups") then Some on_class.Groups else
    (if bytes_eq name (codes "compress") then Some on_class.Compress else
    (if bytes_eq name (codes "report") then Some on_class.Report else
    (if bytes_eq name (codes "json") then Some on_class.Json else
    (if bytes_eq name (codes "canon") then Some on_class.Canon else
    (if bytes_eq name (codes "certify") then Some on_class.Certify else None)))))

-- the commands on a class and a second file
abbrev pub second_command : List ℕ → Option SecondCommand
second_command name =
    if bytes_eq name (codes "check") then Some on_second.Check else
    (if bytes_eq name (codes "fold") then Some on_second.Fold else
    (if bytes_eq name (codes "lift") then Some on_second.Lift else
    (if bytes_eq name (codes "run") then Some on_second.Run else
    (if bytes_eq name (codes "reach") then Some on_second.Reach else
    (if bytes_eq name (codes "verify") then Some on_second.Verify else None)))))

-- a command and one word: a file, or the size of a fat tree
abbrev pub command_on_word : List ℕ → List ℕ → Option Command
command_on_word name word =
    if bytes_eq name (codes "trial") then option_map command.Trial (short_number_of word) else option_map command.OnNetwork (network_command name)

-- a command, a file and the number of a class
abbrev pub command_on_class : List ℕ → List ℕ → Option Command
command_on_class name class = option_and_then (λ of. option_map (command.OnClass of) (short_number_of class)) (class_command name)

-- a command, a file, the number of a class and a second file
abbrev pub command_on_second : List ℕ → List ℕ → Option Command
command_on_second name class = option_and_then (λ of. option_map (command.OnSecond of) (short_number_of class)) (second_command name)

-- the command that the words name
unfoldable pub command_of : List (List ℕ) → Option Command
command_of (name ∷ word ∷ []) = command_on_word name word
command_of (name ∷ file ∷ class ∷ []) = command_on_class name class
command_of (name ∷ file ∷ class ∷ second ∷ []) = command_on_second name class
command_of words = None

-- whether a command reads the first file
abbrev pub reads_first : Command → Bool
reads_first (command.OnNetwork of) = true
reads_first (command.OnClass of number) = true
reads_first (command.OnSecond of number) = true
reads_first (command.Trial size) = false

-- whether it reads the second one
abbrev pub reads_second : Command → Bool
reads_second (command.OnNetwork of) = false
reads_second (command.OnClass of number) = false
reads_second (command.OnSecond of number) = true
reads_second (command.Trial size) = false

abbrev pub is_read : (Command → Bool) → Option Command → Bool
is_read reads None = false
is_read reads (Some command) = reads command

-- the command reads the first file, and its count of faults rose
abbrev pub FirstRose : Option Command → ℕ → ℕ → Type 0
FirstRose command before now = (is_read reads_first command ≡ true) × Rose before now

-- the command reads the second file, and its count of faults rose
abbrev pub SecondRose : Option Command → ℕ → ℕ → Type 0
SecondRose command before now = (is_read reads_second command ≡ true) × Rose before now
