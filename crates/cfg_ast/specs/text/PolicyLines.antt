-- What lines of prefix lists, community lists and route maps add to a router, one after the other.
use Rattle.std.specs.Prelude.{ℕ, Bool, false, ◌&&◌, ◌||◌, List, [], ◌∷◌, ◌++◌, ◌==◌, nat_lt, if◌then◌else◌, Some, Result, Ok, bytes_eq, codes, is_some}
use Rattle.std.specs.List.{list_any}
use Rattle.cfg_ast.specs.declared.policy.PrefixEntry.{PrefixEntry}
use Rattle.cfg_ast.specs.declared.policy.PrefixList.{PrefixList}
use Rattle.cfg_ast.specs.declared.policy.CommunityLine.{CommunityLine}
use Rattle.cfg_ast.specs.declared.policy.CommunityList.{CommunityList}
use Rattle.cfg_ast.specs.declared.policy.MapEntry.{MapEntry}
use Rattle.cfg_ast.specs.declared.policy.RouteMap.{RouteMap}
use Rattle.cfg_ast.specs.declared.items.PolicyItem.{PolicyItem}
use Rattle.cfg_ast.specs.declared.items.PolicyItem.TheVariants as item
use Rattle.cfg_ast.specs.declared.refusal.ReadRefusal.{ReadRefusal}
use Rattle.cfg_ast.specs.text.Stanzas.{once}

abbrev pub is_list_word : List (List ℕ) → Bool
is_list_word [] = false
is_list_word (word ∷ words) = bytes_eq word (codes "prefix-list") || bytes_eq word (codes "community-list")

-- the top lines that begin with `route-map`, `ip prefix-list` or `ip community-list`
unfoldable pub is_policy_line : List (List ℕ) → Bool
is_policy_line [] = false
is_policy_line (word ∷ words) = bytes_eq word (codes "route-map") || (bytes_eq word (codes "ip") && is_list_word words)

-- the first item that passes is changed; where none does, a new one stands last
unfoldable pub changed_or_new : {X : Type 0} → (X → Bool) → (X → X) → X → List X → List X
changed_or_new is_it change new [] = new ∷ []
changed_or_new is_it change new (x ∷ xs) = if is_it x then change x ∷ xs else x ∷ changed_or_new is_it change new xs

-- an item before the first one that comes later
unfoldable pub put_before : {X : Type 0} → (X → Bool) → X → List X → List X
put_before is_later x [] = x ∷ []
put_before is_later x (y ∷ ys) = if is_later y then x ∷ y ∷ ys else y ∷ put_before is_later x ys

-- ---- prefix lists

abbrev pub is_prefix_list : List ℕ → PrefixList → Bool
is_prefix_list name l = bytes_eq l.name name

abbrev pub has_seq : List PrefixEntry → ℕ → Bool
has_seq entries seq = list_any (λ (e : PrefixEntry). e.seq == seq) entries

-- the list of this name has an entry of this sequence number
unfoldable pub has_prefix_entry : List PrefixList → List ℕ → ℕ → Bool
has_prefix_entry lists name seq = list_any (λ (l : PrefixList). is_prefix_list name l && has_seq l.entries seq) lists

-- the entry in its place by sequence number
abbrev pub put_prefix_entry : PrefixEntry → PrefixList → PrefixList
put_prefix_entry e l = record l { entries = put_before (λ (x : PrefixEntry). nat_lt e.seq x.seq) e l.entries }

-- the entry in the list of its name, which it may begin
abbrev pub with_prefix_entry : List ℕ → PrefixEntry → List PrefixList → List PrefixList
with_prefix_entry name e lists = changed_or_new (is_prefix_list name) (put_prefix_entry e) (record { name = name; entries = e ∷ [] }) lists

-- ---- community lists

abbrev pub is_community_list : List ℕ → CommunityList → Bool
is_community_list name l = bytes_eq l.name name

abbrev pub put_community_line : CommunityLine → CommunityList → CommunityList
put_community_line line l = record l { lines = l.lines ++ line ∷ [] }

-- the line at the end of the list of its name, which it may begin
abbrev pub with_community_line : List ℕ → CommunityLine → List CommunityList → List CommunityList
with_community_line name line lists = changed_or_new (is_community_list name) (put_community_line line) (record { name = name; lines = line ∷ [] }) lists

-- ---- route maps

abbrev pub is_route_map : List ℕ → RouteMap → Bool
is_route_map name m = bytes_eq m.name name

abbrev pub has_entry_seq : List MapEntry → ℕ → Bool
has_entry_seq entries seq = list_any (λ (e : MapEntry). e.seq == seq) entries

-- the map of this name has an entry of this sequence number
unfoldable pub has_map_entry : List RouteMap → List ℕ → ℕ → Bool
has_map_entry maps name seq = list_any (λ (m : RouteMap). is_route_map name m && has_entry_seq m.entries seq) maps

-- the entry in its place by sequence number
abbrev pub put_map_entry : MapEntry → RouteMap → RouteMap
put_map_entry e m = record m { entries = put_before (λ (x : MapEntry). nat_lt e.seq x.seq) e m.entries }

-- the entry in the map of its name, which it may begin
abbrev pub with_map_entry : List ℕ → MapEntry → List RouteMap → List RouteMap
with_map_entry name e maps = changed_or_new (is_route_map name) (put_map_entry e) (record { name = name; entries = e ∷ [] }) maps

-- ---- lines of an entry of a route map, of each kind one

unfoldable pub set_entry : ℕ → PolicyItem → MapEntry → Result MapEntry ReadRefusal
set_entry n (item.MatchPrefixes names) e = once n (is_some e.prefixes) (record e { prefixes = Some names })
set_entry n (item.MatchComms names exact) e = once n (is_some e.comms) (record e { comms = Some names; exact = exact })
set_entry n (item.Lp lp) e = once n (is_some e.lp) (record e { lp = Some lp })
set_entry n (item.Comms change) e = once n (is_some e.change) (record e { change = Some change; change_line = n })
set_entry n (item.Delete list) e = once n (is_some e.delete) (record e { delete = Some list })
set_entry n (item.Prepend prepend) e = once n (is_some e.prepend) (record e { prepend = Some prepend })
set_entry n _ e = Ok e
