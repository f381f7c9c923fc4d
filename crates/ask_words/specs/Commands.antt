-- What the words of a call ask.
use Rattle.std.specs.Prelude.{ℕ, List, [], ◌∷◌, codes, bytes_eq, if◌then◌else◌, Option, Some, None}
use Rattle.std.specs.Option.{option_map}
use Rattle.ask_words.specs.Tasks.{request_of}
use Rattle.ask_words.specs.declared.request.Command.{Command}
use Rattle.ask_words.specs.declared.request.Command.TheVariants as command

-- one request
abbrev pub one_request_of : List (List ℕ) → Option Command
one_request_of words = option_map command.One (request_of words)

-- `questions` and a file, or one request
abbrev pub command_behind : List (List ℕ) → Option Command
command_behind (word ∷ second ∷ []) = if bytes_eq word (codes "questions") then Some command.Questions else one_request_of (word ∷ second ∷ [])
command_behind words = one_request_of words

-- the file, and what is asked of it
unfoldable pub command_of : List (List ℕ) → Option Command
command_of [] = None
command_of (file ∷ words) = command_behind words

-- the file that the words name first
abbrev pub file_of : List (List ℕ) → List ℕ
file_of [] = []
file_of (file ∷ words) = file

-- the word for the classes
abbrev pub class_word_of : List (List ℕ) → List ℕ
class_word_of (file ∷ class ∷ words) = class
class_word_of words = []

-- the file of questions
abbrev pub second_of : List (List ℕ) → List ℕ
second_of (file ∷ word ∷ second ∷ words) = second
second_of words = []
