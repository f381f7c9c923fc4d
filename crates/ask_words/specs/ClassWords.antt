-- The word for the classes that are asked: `*`, a number, two numbers with a hyphen between them, a
-- prefix, or an address.
use Rattle.std.specs.Prelude.{ℕ, Bool, ◌&&◌, List, codes, bytes_eq, nat_le, ◌==◌, if◌then◌else◌, Option, Some, None}
use Rattle.std.specs.Option.{option_map, option_and_then}
use Rattle.std.specs.List.{list_any, before_first, after_first}
use Rattle.cfg_ast.specs.text.Words.{address_word, prefix_of, is_slash}
use Rattle.ask_words.specs.Words.{short_number}
use Rattle.ask_words.specs.declared.request.Classes.{Classes}
use Rattle.ask_words.specs.declared.request.Classes.TheVariants as classes

abbrev pub is_hyphen : ℕ → Bool
is_hyphen b = b == 45

abbrev pub is_point : ℕ → Bool
is_point b = b == 46

-- from a number that is at least 1 to one that is not below it
abbrev pub range_between : ℕ → ℕ → Option Classes
range_between from to = if nat_le 1 from && nat_le from to then Some (classes.Range from to) else None

-- two numbers with a hyphen between them
unfoldable pub range_of : List ℕ → Option Classes
range_of word = option_and_then (λ from. option_and_then (range_between from) (short_number (after_first is_hyphen word)))
    (short_number (before_first is_hyphen word))

-- a slash stands in a prefix alone, a hyphen in a range, and a point, where there is no slash, in an address
unfoldable pub classes_of_word : List ℕ → Option Classes
classes_of_word word =
    if bytes_eq word (codes "*") then Some classes.All
    else (if list_any is_slash word then option_map classes.Having (prefix_of word)
    else (if list_any is_hyphen word then range_of word
    else (if list_any is_point word then option_map classes.Holding (address_word word)
    else option_map classes.Number (short_number word))))
