-- Prefixes in cells by what prefix lists answer, a few lists at a time.
use Rattle.std.specs.Prelude.{◌≡◌, ℕ, ◌+◌, ◌*◌, Bool, ◌&&◌, List, [], ◌∷◌, map, nat_eq, if◌then◌else◌}
use Rattle.std.specs.Bool.{beq}
use Rattle.std.specs.List.{AllByRecursion, position_or_len}
use Rattle.indexmap.specs.IndexSet.{insert_key}
use Rattle.base_kit.specs.Prefixes.{Prefix}
use Rattle.cfg_ast.specs.declared.classes.Origin.{Origin}
use Rattle.cfg_ast.specs.declared.policy.PrefixList.{PrefixList}
use Rattle.cfg_ast.specs.meaning.Classes.{same_items}
use Rattle.cfg_ast.specs.meaning.PrefixLists.{prefix_list_permits}
use Rattle.dest_classes.specs.declared.cells.Member.{Member}
use Rattle.dest_classes.specs.Lists.{answers_to}

-- the answers of lists to a prefix, as the bits of a number, behind those of another number
abbrev pub word_from : ℕ → List PrefixList → Prefix → ℕ
word_from word [] p = word
word_from word (list ∷ lists) p = word_from (2 * word + (if prefix_list_permits list p then 1 else 0)) lists p

abbrev pub word_of : List PrefixList → Prefix → ℕ
word_of lists p = word_from 0 lists p

-- a cell so far, and the next answers
abbrev pub cell_key : List PrefixList → Member → ℕ × ℕ
cell_key lists member = (member.cell, word_of lists member.prefix)

abbrev pub same_cell_key : ℕ × ℕ → ℕ × ℕ → Bool
same_cell_key a b = nat_eq a.0 b.0 && nat_eq a.1 b.1

-- the members once these lists are asked too: a cell is now the place of its key among the different ones
abbrev pub asked : List PrefixList → List (ℕ × ℕ) → List Member → List Member
asked lists keys [] = []
asked lists keys (member ∷ members) =
    record member { cell = position_or_len (same_cell_key (cell_key lists member)) keys } ∷ asked lists (insert_key same_cell_key keys (cell_key lists member))
    members

-- a prefix with its originators, before any list is asked
abbrev pub started : Prefix × List Origin → Member
started (p, origins) = record { prefix = p; origins = origins; cell = 0 }

abbrev pub entry_of : Member → Prefix × List Origin
entry_of member = (member.prefix, member.origins)

abbrev pub entries_of : List Member → List (Prefix × List Origin)
entries_of members = map entry_of members

-- all these lists answer both prefixes alike
abbrev pub alike_to : List PrefixList → Prefix → Prefix → Bool
alike_to lists p q = same_items beq (answers_to lists p) (answers_to lists q)

-- a later member is of the cell of this one exactly if the lists answer both alike
pub record IsCellTold (lists : List PrefixList) (member later : Member) : Type 0 where
  pub alike : nat_eq later.cell member.cell ≡ alike_to lists later.prefix member.prefix

abbrev pub AreAllTold : List PrefixList → List Member → Type 0
AreAllTold lists [] = Unit {0}
AreAllTold lists (member ∷ members) = AllByRecursion (IsCellTold lists member) members × AreAllTold lists members

-- the entries of a map from prefixes to originators, each with its cell by these lists
pub record AreMembers (entries : List (Prefix × List Origin)) (lists : List PrefixList) (members : List Member) : Type 0 where
  pub entries_are : entries_of members ≡ entries
  pub told : AreAllTold lists members
