-- What words may be: a number, and the files that they name.
use Rattle.std.specs.Prelude.{ℕ, List, [], ◌∷◌, map, string_bytes, Option, Some, None, if◌then◌else◌, nat_le, String}
use Rattle.std.specs.Option.{option_and_then}
use Rattle.std.specs.declared.alloc.Global.{Global}
use Rattle.base_kit.specs.Numbers.{number_of}

-- the words as bytes
abbrev pub bytes_of_words : List (String Global) → List (List ℕ)
bytes_of_words words = map string_bytes words

abbrev pub short : ℕ → Option ℕ
short n = if nat_le n 999999999 then Some n else None

-- a number of at most nine digits
abbrev pub short_number_of : List ℕ → Option ℕ
short_number_of word = option_and_then short (number_of word)

-- the file that the words name first
abbrev pub file_of : List (List ℕ) → List ℕ
file_of (name ∷ file ∷ more) = file
file_of words = []

-- the file that they name behind the number
abbrev pub second_of : List (List ℕ) → List ℕ
second_of (name ∷ file ∷ class ∷ second ∷ more) = second
second_of words = []
