-- The classes that are asked, by their places.
use Rattle.std.specs.Prelude.{ℕ, suc, zero, ◌+◌, ◌-◌, Bool, true, false, ◌&&◌, List, length, drop, take, nat_le, if◌then◌else◌, Option, Some, None}
use Rattle.std.specs.Option.{option_map}
use Rattle.std.specs.List.{enumerate_from, position}
use Rattle.base_kit.specs.Prefixes.{Prefix}
use Rattle.cfg_ast.specs.declared.classes.DestClass.{DestClass}
use Rattle.cfg_ast.specs.meaning.Classes.{has_prefix}
use Rattle.cfg_ast.specs.text.Words.{cut_to}
use Rattle.ask_words.specs.declared.request.Classes.{Classes}
use Rattle.ask_words.specs.declared.request.Classes.TheVariants as classes
use Rattle.ask_names.specs.declared.selection.Span.{Span}

-- the place of the class that has a prefix
unfoldable pub place_having : List DestClass → Prefix → Option ℕ
place_having all p = position (λ (class : DestClass). has_prefix class.prefixes p) all

-- the first place, or the other one where there is none
abbrev pub or_place : Option ℕ → Option ℕ → Option ℕ
or_place None other = other
or_place (Some place) other = Some place

-- The place of the class that has the longest prefix of at most that length with the address in it.
unfoldable pub place_holding : List DestClass → ℕ → ℕ → Option ℕ
place_holding all zero addr = place_having all (cut_to 0 addr)
place_holding all (suc len) addr = or_place (place_having all (cut_to (suc len) addr)) (place_holding all len addr)

abbrev pub one_at : ℕ → Span
one_at place = record { from = place; upto = place + 1 }

-- from one number to another, counted from 1, if there are so many classes
abbrev pub numbers_between : List DestClass → ℕ → ℕ → Option Span
numbers_between all from to = if nat_le 1 from && nat_le to (length all) then Some (record { from = from - 1; upto = to }) else None

-- the places of the classes that are asked
unfoldable pub selected : Classes → List DestClass → Option Span
selected classes.All all = Some (record { from = 0; upto = length all })
selected (classes.Number n) all = numbers_between all n n
selected (classes.Range from to) all = numbers_between all from to
selected (classes.Having p) all = option_map one_at (place_having all p)
selected (classes.Holding addr) all = option_map one_at (place_holding all 32 addr)

-- these classes with their numbers
abbrev pub chosen : List DestClass → Span → List (ℕ × DestClass)
chosen all span = drop span.from (take span.upto (enumerate_from 1 all))

-- one class is named
abbrev pub names_one : Classes → Bool
names_one classes.All = false
names_one (classes.Number n) = true
names_one (classes.Range from to) = false
names_one (classes.Having p) = true
names_one (classes.Holding addr) = true
