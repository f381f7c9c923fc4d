-- Which plain maps the lines of a configuration can say: a `route-map` line and the lines of its entry
-- for each entry, and an `ip community-list` line for each line of a list.
use Rattle.std.specs.Prelude.{◌≡◌, ℕ, ◌≤◌, List, IfSome, length, map}
use Rattle.std.specs.List.{AllByRecursion}
use Rattle.base_kit.specs.Sets.{IsAscending}
use Rattle.cfg_ast.specs.printing.WellFormed.{IsBetween, IsNumber, IsWellFormedCommunityLine, IsWellFormedChange}
use Rattle.cfg_ast.specs.declared.policy.CommunityLine.{CommunityLine}
use Rattle.cfg_ast.specs.declared.policy.CommunityList.{CommunityList}
use Rattle.route_maps.specs.declared.plain.Plain.{Plain}
use Rattle.route_maps.specs.declared.plain.PlainEntry.{PlainEntry}

-- each line names 1 to 32 communities, none of them set aside; how the list is called is free
pub record IsPrintableList (list : CommunityList) : Type 0 where
  pub some : 1 ≤ length list.lines
  pub lines : AllByRecursion IsWellFormedCommunityLine list.lines

abbrev pub NamesOne : CommunityLine → Type 0
NamesOne line = length line.comms ≡ 1

-- each line of a deletion list names one community
pub record IsPrintableDeletion (list : CommunityList) : Type 0 where
  pub printable : IsPrintableList list
  pub alone : AllByRecursion NamesOne list.lines

-- the lists of a match line
pub record ArePrintableLists (lists : List CommunityList) : Type 0 where
  pub count : IsBetween 1 32 (length lists)
  pub each : AllByRecursion IsPrintableList lists

pub record IsPrintableEntry (entry : PlainEntry) : Type 0 where
  pub seq : entry.seq ≤ 65535
  pub lists : IfSome entry.lists ArePrintableLists
  pub lp : IfSome entry.lp IsNumber
  pub change : IfSome entry.change IsWellFormedChange
  pub delete : IfSome entry.delete IsPrintableDeletion
  pub adds : entry.adds ≤ 10

abbrev pub plain_seqs : List PlainEntry → List ℕ
plain_seqs entries = map (λ (entry : PlainEntry). entry.seq) entries

-- The map can be printed: its entries, by strictly ascending sequence numbers.
pub record IsPrintable (plain : Plain) : Type 0 where
  pub entries : AllByRecursion IsPrintableEntry plain.entries
  pub ascending : IsAscending (plain_seqs plain.entries)
