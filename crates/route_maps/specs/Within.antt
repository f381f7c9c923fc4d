-- Plain maps that name only communities of a set.
use Rattle.std.specs.Prelude.{◌≡◌, ℕ, true, List, IfSome}
use Rattle.std.specs.List.{AllByRecursion}
use Rattle.base_kit.specs.Sets.{has}
use Rattle.cfg_ast.specs.declared.policy.Change.{Change}
use Rattle.cfg_ast.specs.declared.policy.Change.TheVariants.{Clear, Replace, Append}
use Rattle.cfg_ast.specs.declared.policy.CommunityLine.{CommunityLine}
use Rattle.cfg_ast.specs.declared.policy.CommunityList.{CommunityList}
use Rattle.route_maps.specs.declared.plain.Plain.{Plain}
use Rattle.route_maps.specs.declared.plain.PlainEntry.{PlainEntry}

abbrev pub AreWithin : List ℕ → List ℕ → Type 0
AreWithin set comms = AllByRecursion (λ c. has set c ≡ true) comms

abbrev pub IsLineWithin : List ℕ → CommunityLine → Type 0
IsLineWithin set line = AreWithin set line.comms

abbrev pub IsListWithin : List ℕ → CommunityList → Type 0
IsListWithin set list = AllByRecursion (IsLineWithin set) list.lines

abbrev pub AreListsWithin : List ℕ → List CommunityList → Type 0
AreListsWithin set lists = AllByRecursion (IsListWithin set) lists

abbrev pub IsChangeWithin : List ℕ → Change → Type 0
IsChangeWithin set Clear = Unit {0}
IsChangeWithin set (Replace by) = AreWithin set by
IsChangeWithin set (Append more) = AreWithin set more

pub record IsEntryWithin (set : List ℕ) (entry : PlainEntry) : Type 0 where
  pub lists : IfSome entry.lists (AreListsWithin set)
  pub change : IfSome entry.change (IsChangeWithin set)
  pub delete : IfSome entry.delete (IsListWithin set)

-- the map's lists, changes and deletion lists name only communities of the set
abbrev pub IsMapWithin : List ℕ → Plain → Type 0
IsMapWithin set plain = AllByRecursion (IsEntryWithin set) plain.entries
