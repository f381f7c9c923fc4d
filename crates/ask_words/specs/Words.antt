-- The words of a call, and short numbers.
use Rattle.std.specs.Prelude.{ℕ, List, map, string_bytes, Option, Some, None, if◌then◌else◌, nat_le, String}
use Rattle.std.specs.Option.{option_and_then}
use Rattle.std.specs.declared.alloc.Global.{Global}
use Rattle.cfg_ast.specs.text.Words.{number_word}

-- the words as bytes
abbrev pub bytes_of_words : List (String Global) → List (List ℕ)
bytes_of_words words = map string_bytes words

abbrev pub if_short : ℕ → Option ℕ
if_short n = if nat_le n 999999999 then Some n else None

-- a number of at most nine digits
unfoldable pub short_number : List ℕ → Option ℕ
short_number word = option_and_then if_short (number_word word)
