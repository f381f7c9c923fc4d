-- What words ask for: a command on each of some classes of the network in a file.
use Rattle.std.specs.Prelude.{ℕ, ◌+◌, ◌-◌, List, [], ◌∷◌, decimal, Option, Some, None, if◌then◌else◌, nat_le}
use Rattle.std.specs.Option.{option_map, option_and_then}
use Rattle.bonsai_top.specs.Commands.{class_command}
use Rattle.bonsai_top.specs.Words.{short_number_of}
use Rattle.all_classes.specs.declared.request.Asked.{Asked}
use Rattle.all_classes.specs.declared.request.Asked.TheVariants.{All, Range}
use Rattle.all_classes.specs.declared.request.Request.{Request}

-- the numbers from one to another one, which is not less
abbrev pub range : ℕ → ℕ → Option Asked
range from to = if nat_le from to then Some (Range from to) else None

abbrev pub range_of : List ℕ → List ℕ → Option Asked
range_of from to = option_and_then (λ a. option_and_then (range a) (short_number_of to)) (short_number_of from)

-- a command on all classes
abbrev pub request_of_all : List ℕ → Option Request
request_of_all name = option_map (λ of. record { command = of; asked = All }) (class_command name)

-- a command on the classes of a range
abbrev pub request_of_range : List ℕ → List ℕ → List ℕ → Option Request
request_of_range name from to = option_and_then (λ of. option_map (λ asked. record { command = of; asked = asked }) (range_of from to)) (class_command name)

-- what the words ask for
unfoldable pub request_of : List (List ℕ) → Option Request
request_of (file ∷ name ∷ []) = request_of_all name
request_of (file ∷ name ∷ from ∷ to ∷ []) = request_of_range name from to
request_of words = None

-- the file that the words name
abbrev pub file_of : List (List ℕ) → List ℕ
file_of (file ∷ words) = file
file_of [] = []

-- the command's name
abbrev pub name_of : List (List ℕ) → List ℕ
name_of (file ∷ name ∷ words) = name
name_of words = []

-- the first of the numbers
abbrev pub first_of : Asked → ℕ
first_of All = 1
first_of (Range from to) = from

-- the last of them, if there are so many classes
abbrev pub last_of : Asked → ℕ → ℕ
last_of All classes = classes
last_of (Range from to) classes = to

-- how many numbers there are from one to another one
abbrev pub span : ℕ → ℕ → ℕ
span from to = to + 1 - from

abbrev pub span_of : Asked → ℕ → ℕ
span_of asked classes = span (first_of asked) (last_of asked classes)

-- the words by which `bonsai` does the same for the class of a number
abbrev pub class_words : List (List ℕ) → ℕ → List (List ℕ)
class_words words number = name_of words ∷ file_of words ∷ decimal number ∷ []
