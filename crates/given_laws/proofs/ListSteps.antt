-- The lines of lists and the entries of route maps keep what is well formed.
use Rattle.std.proofs.Common.{◌≡◌, ℕ, Bool, true, false, ◌&&◌, List, [], ◌∷◌, refl, arith}
use Rattle.std.specs.Prelude.{nat_lt, bytes_eq}
use Rattle.std.specs.List.{AllByRecursion, IsDistinct}
use Rattle.cfg_ast.specs.declared.policy.PrefixEntry.{PrefixEntry}
use Rattle.cfg_ast.specs.declared.policy.PrefixList.{PrefixList}
use Rattle.cfg_ast.specs.declared.policy.CommunityLine.{CommunityLine}
use Rattle.cfg_ast.specs.declared.policy.CommunityList.{CommunityList}
use Rattle.cfg_ast.specs.declared.policy.MapEntry.{MapEntry}
use Rattle.cfg_ast.specs.declared.policy.RouteMap.{RouteMap}
use Rattle.cfg_ast.specs.text.PolicyLines.{is_prefix_list, has_seq, has_prefix_entry, put_prefix_entry, with_prefix_entry, is_community_list, put_community_line, with_community_line, is_route_map, has_entry_seq, has_map_entry, put_map_entry, with_map_entry}
use Rattle.cfg_ast.specs.printing.WellFormed.{IsListName, IsWellFormedPrefixEntry, IsWellFormedPrefixList, same_prefix_list, IsWellFormedCommunityLine, IsWellFormedCommunityList, same_community_list, IsWellFormedMapEntry, IsWellFormedRouteMap, same_route_map}
use Rattle.given_laws.proofs.Each.{all_push, all_both, none_pass}
use Rattle.given_laws.proofs.Lists.{push_some, put_all, put_some, put_ascending, changed_all, changed_distinct}

-- what has a name has no such number, where no item has both
other_number : (named has : Bool) → (named && has) ≡ false → named ≡ true → has ≡ false
other_number true has none e = none
other_number false has none e = absurd cc

-- ---- prefix lists

-- well formed, and without that entry, if of that name
abbrev LacksPrefixEntry : List ℕ → ℕ → PrefixList → Type 0
LacksPrefixEntry name seq l = IsWellFormedPrefixList l × ((is_prefix_list name l && has_seq l.entries seq) ≡ false)

prefix_entry_put : (name : List ℕ) (e : PrefixEntry) (l : PrefixList) → IsWellFormedPrefixEntry e → is_prefix_list name l ≡ true →
    LacksPrefixEntry name e.seq l → IsWellFormedPrefixList (put_prefix_entry e l)
prefix_entry_put name e l is here lacks = record {
  name = lacks.0.name;
  some = put_some (λ (x : PrefixEntry). nat_lt e.seq x.seq) e l.entries;
  entries = put_all IsWellFormedPrefixEntry (λ (x : PrefixEntry). nat_lt e.seq x.seq) e l.entries is lacks.0.entries;
  ascending = put_ascending (λ (x : PrefixEntry). x.seq) e l.entries (other_number (is_prefix_list name l) (has_seq l.entries e.seq) lacks.1 here)
      lacks.0.ascending;
}

pub prefix_lists_step : (name : List ℕ) (e : PrefixEntry) (lists : List PrefixList) → IsListName name → IsWellFormedPrefixEntry e →
    has_prefix_entry lists name e.seq ≡ false → AllByRecursion IsWellFormedPrefixList lists →
    AllByRecursion IsWellFormedPrefixList (with_prefix_entry name e lists)
unfolding has_prefix_entry
prefix_lists_step name e lists named is none all =
    let lacks = all_both IsWellFormedPrefixList (λ (l : PrefixList). (is_prefix_list name l && has_seq l.entries e.seq) ≡ false) (LacksPrefixEntry name e.seq)
    (λ l whole not. (whole, not)) lists all (none_pass (λ (l : PrefixList). is_prefix_list name l && has_seq l.entries e.seq) lists none) in
    changed_all IsWellFormedPrefixList (LacksPrefixEntry name e.seq) (is_prefix_list name) (put_prefix_entry e) _ lists (λ l whole. whole.0)
    (λ l here whole. prefix_entry_put name e l is here whole) (record { name = named; some = omega arith; entries = (is, tt); ascending = (tt, tt) }) lacks

pub prefix_lists_once : (name : List ℕ) (e : PrefixEntry) (lists : List PrefixList) → IsDistinct same_prefix_list lists →
    IsDistinct same_prefix_list (with_prefix_entry name e lists)
prefix_lists_once name e lists once = changed_distinct (λ (l : PrefixList). l.name) bytes_eq (put_prefix_entry e) (record { name = name; entries = e ∷ [] })
    (λ l. refl) lists once

-- ---- community lists

community_line_put : (line : CommunityLine) (l : CommunityList) → IsWellFormedCommunityLine line → IsWellFormedCommunityList l →
    IsWellFormedCommunityList (put_community_line line l)
community_line_put line l is whole = record {
  name = whole.name;
  some = push_some l.lines line;
  lines =
      all_push IsWellFormedCommunityLine l.lines line whole.lines is;
}

pub community_lists_step : (name : List ℕ) (line : CommunityLine) (lists : List CommunityList) → IsListName name → IsWellFormedCommunityLine line →
    AllByRecursion IsWellFormedCommunityList lists → AllByRecursion IsWellFormedCommunityList (with_community_line name line lists)
community_lists_step name line lists named is all =
    changed_all IsWellFormedCommunityList IsWellFormedCommunityList (is_community_list name) (put_community_line line) _ lists (λ l whole. whole)
    (λ l here whole. community_line_put line l is whole) (record { name = named; some = omega arith; lines = (is, tt) }) all

pub community_lists_once : (name : List ℕ) (line : CommunityLine) (lists : List CommunityList) → IsDistinct same_community_list lists →
    IsDistinct same_community_list (with_community_line name line lists)
community_lists_once name line lists once =
    changed_distinct (λ (l : CommunityList). l.name) bytes_eq (put_community_line line) (record { name = name; lines = line ∷ [] }) (λ l. refl) lists once

-- ---- route maps

-- well formed, and without that entry, if of that name
abbrev LacksMapEntry : List ℕ → ℕ → RouteMap → Type 0
LacksMapEntry name seq m = IsWellFormedRouteMap m × ((is_route_map name m && has_entry_seq m.entries seq) ≡ false)

map_entry_put : (name : List ℕ) (e : MapEntry) (m : RouteMap) → IsWellFormedMapEntry e → is_route_map name m ≡ true → LacksMapEntry name e.seq m →
    IsWellFormedRouteMap (put_map_entry e m)
map_entry_put name e m is here lacks = record {
  name = lacks.0.name;
  some = put_some (λ (x : MapEntry). nat_lt e.seq x.seq) e m.entries;
  entries = put_all IsWellFormedMapEntry (λ (x : MapEntry). nat_lt e.seq x.seq) e m.entries is lacks.0.entries;
  ascending = put_ascending (λ (x : MapEntry). x.seq) e m.entries (other_number (is_route_map name m) (has_entry_seq m.entries e.seq) lacks.1 here)
      lacks.0.ascending;
}

pub route_maps_step : (name : List ℕ) (e : MapEntry) (maps : List RouteMap) → IsListName name → IsWellFormedMapEntry e → has_map_entry maps name e.seq ≡ false →
    AllByRecursion IsWellFormedRouteMap maps → AllByRecursion IsWellFormedRouteMap (with_map_entry name e maps)
unfolding has_map_entry
route_maps_step name e maps named is none all =
    let lacks = all_both IsWellFormedRouteMap (λ (m : RouteMap). (is_route_map name m && has_entry_seq m.entries e.seq) ≡ false) (LacksMapEntry name e.seq)
    (λ m whole not. (whole, not)) maps all (none_pass (λ (m : RouteMap). is_route_map name m && has_entry_seq m.entries e.seq) maps none) in
    changed_all IsWellFormedRouteMap (LacksMapEntry name e.seq) (is_route_map name) (put_map_entry e) _ maps (λ m whole. whole.0)
    (λ m here whole. map_entry_put name e m is here whole) (record { name = named; some = omega arith; entries = (is, tt); ascending = (tt, tt) }) lacks

pub route_maps_once : (name : List ℕ) (e : MapEntry) (maps : List RouteMap) → IsDistinct same_route_map maps →
    IsDistinct same_route_map (with_map_entry name e maps)
route_maps_once name e maps once = changed_distinct (λ (m : RouteMap). m.name) bytes_eq (put_map_entry e) (record { name = name; entries = e ∷ [] }) (λ m. refl)
    maps once
