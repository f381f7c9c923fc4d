-- What is wrong with the meaning of policy lines: each definition lists the lines at which one kind of
-- fault stands. A line names the maps and lists of its own router. Communities are those of RFC 1997,
-- and the AS numbers that a router puts before a path are its own (RFC 4271 section 5.1.2).
use Rattle.std.specs.Prelude.{ℕ, Bool, false, not, ◌&&◌, List, [], ◌∷◌, ◌++◌, Option, Some, map, filter, flat_map, nat_lt, nat_le, bytes_eq, is_some, length, if◌then◌else◌}
use Rattle.std.specs.List.{list_any, list_all}
use Rattle.std.specs.Option.{option_map_or}
use Rattle.base_kit.specs.Sets.{with_numbers}
use Rattle.cfg_ast.specs.declared.bgp.Neighbor.{Neighbor}
use Rattle.cfg_ast.specs.declared.network.Named.{Named}
use Rattle.cfg_ast.specs.declared.network.Router.{Router}
use Rattle.cfg_ast.specs.declared.network.Network.{Network}
use Rattle.cfg_ast.specs.declared.policy.Change.{Change}
use Rattle.cfg_ast.specs.declared.policy.Change.TheVariants.{Replace, Append}
use Rattle.cfg_ast.specs.declared.policy.CommunityLine.{CommunityLine}
use Rattle.cfg_ast.specs.declared.policy.CommunityList.{CommunityList}
use Rattle.cfg_ast.specs.declared.policy.MapEntry.{MapEntry}
use Rattle.cfg_ast.specs.declared.policy.Mention.{Mention}
use Rattle.cfg_ast.specs.declared.policy.NameLine.{NameLine}
use Rattle.cfg_ast.specs.declared.policy.PrefixList.{PrefixList}
use Rattle.cfg_ast.specs.declared.policy.Prepend.{Prepend}
use Rattle.cfg_ast.specs.declared.policy.RouteMap.{RouteMap}
use Rattle.cfg_ast.specs.meaning.Topology.{neighbors_of, has_number}

-- the line, if it gives a name that passes the test
abbrev pub line_naming : (List ℕ → Bool) → Option Named → List ℕ
line_naming test named = option_map_or (λ (n : Named). if test n.name then n.line ∷ [] else []) named []

-- the same for a match line, which may give several names
abbrev pub match_line_naming : (List ℕ → Bool) → Option NameLine → List ℕ
match_line_naming test line = option_map_or (λ (l : NameLine). if list_any test l.names then l.line ∷ [] else []) line []

-- UndefinedMap: a line that names a route map which its router does not define

abbrev pub lacks_map : Router → List ℕ → Bool
lacks_map router name = not (list_any (λ (map : RouteMap). bytes_eq name map.name) router.route_maps)

-- the lines of a neighbour that name a map which passes the test
abbrev pub map_lines_naming : (List ℕ → Bool) → Neighbor → List ℕ
map_lines_naming test neighbor = line_naming test neighbor.map_in ++ line_naming test neighbor.map_out

abbrev pub undefined_maps_of : Router → List ℕ
undefined_maps_of router = flat_map (map_lines_naming (lacks_map router)) (neighbors_of router)

unfoldable pub undefined_map_lines : Network → List ℕ
undefined_map_lines n = flat_map undefined_maps_of n.routers

-- UndefinedList: a line that names a prefix list or community list which its router does not define

abbrev pub lacks_prefix_list : Router → List ℕ → Bool
lacks_prefix_list router name = not (list_any (λ (list : PrefixList). bytes_eq name list.name) router.prefix_lists)

abbrev pub lacks_community_list : Router → List ℕ → Bool
lacks_community_list router name = not (list_any (λ (list : CommunityList). bytes_eq name list.name) router.community_lists)

-- the lines of a neighbour that name a prefix list which passes the test
abbrev pub list_lines_naming : (List ℕ → Bool) → Neighbor → List ℕ
list_lines_naming test neighbor = line_naming test neighbor.list_in ++ line_naming test neighbor.list_out

-- the lines of an entry that name a prefix list which passes the one test, or a community list which
-- passes the other
abbrev pub entry_lines_naming : (List ℕ → Bool) → (List ℕ → Bool) → MapEntry → List ℕ
entry_lines_naming prefixes comms entry = match_line_naming prefixes entry.prefixes ++ match_line_naming comms entry.comms ++ line_naming comms entry.delete

abbrev pub lines_in_map_naming : (List ℕ → Bool) → (List ℕ → Bool) → RouteMap → List ℕ
lines_in_map_naming prefixes comms map = flat_map (entry_lines_naming prefixes comms) map.entries

abbrev pub undefined_lists_of : Router → List ℕ
undefined_lists_of router =
    flat_map (list_lines_naming (lacks_prefix_list router)) (neighbors_of router)
    ++ flat_map (lines_in_map_naming (lacks_prefix_list router) (lacks_community_list router)) router.route_maps

unfoldable pub undefined_list_lines : Network → List ℕ
undefined_list_lines n = flat_map undefined_lists_of n.routers

-- DeleteListForm: a line with several communities in a list that some `set comm-list` line of its
-- router names

abbrev pub is_name : List ℕ → Option Named → Bool
is_name name named = option_map_or (λ (n : Named). bytes_eq name n.name) named false

abbrev pub is_deleted_in : List ℕ → RouteMap → Bool
is_deleted_in name map = list_any (λ (entry : MapEntry). is_name name entry.delete) map.entries

abbrev pub is_deleted : Router → List ℕ → Bool
is_deleted router name = list_any (is_deleted_in name) router.route_maps

abbrev pub several_at : CommunityLine → List ℕ
several_at line = if nat_lt 1 (length line.comms) then line.line ∷ [] else []

-- the lines with several communities of a list whose name passes the test
abbrev pub several_in : (List ℕ → Bool) → CommunityList → List ℕ
several_in test list = if test list.name then flat_map several_at list.lines else []

abbrev pub wide_deletions_of : Router → List ℕ
wide_deletions_of router = flat_map (several_in (is_deleted router)) router.community_lists

unfoldable pub delete_list_lines : Network → List ℕ
delete_list_lines n = flat_map wide_deletions_of n.routers

-- TooManyCommunities: the line at which the 1,025th community of the text first stands

abbrev pub mention_at : ℕ → ℕ → Mention
mention_at line community = record { community = community; line = line }

abbrev pub mentions_on : CommunityLine → List Mention
mentions_on line = map (mention_at line.line) line.comms

abbrev pub mentions_in_list : CommunityList → List Mention
mentions_in_list list = flat_map mentions_on list.lines

-- the communities that a `set community` line names
abbrev pub changed_by : Option Change → List ℕ
changed_by (Some (Replace comms)) = comms
changed_by (Some (Append comms)) = comms
changed_by change = []

abbrev pub mentions_in : MapEntry → List Mention
mentions_in entry = map (mention_at entry.change_line) (changed_by entry.change)

abbrev pub mentions_in_map : RouteMap → List Mention
mentions_in_map map = flat_map mentions_in map.entries

abbrev pub mentions_of : Router → List Mention
mentions_of router = flat_map mentions_in_list router.community_lists ++ flat_map mentions_in_map router.route_maps

-- each community that a line of the network names, with that line
abbrev pub mentions : Network → List Mention
mentions n = flat_map mentions_of n.routers

abbrev pub community_of : Mention → ℕ
community_of mention = mention.community

-- the set of the communities that are mentioned
abbrev pub communities_in : List Mention → List ℕ
communities_in ms = with_numbers (map community_of ms) []

-- all communities that the lines of a network name
unfoldable pub communities_of : Network → List ℕ
communities_of n = communities_in (mentions n)

-- how many communities stand on the lines that pass the test
abbrev pub count_on : (ℕ → Bool) → List Mention → ℕ
count_on test ms = length (communities_in (filter (λ (m : Mention). test m.line) ms))

-- at most `limit` communities stand before the line, and more up to it
abbrev pub first_exceeds : ℕ → List Mention → ℕ → Bool
first_exceeds limit ms line = nat_le (count_on (λ l. nat_lt l line) ms) limit && nat_lt limit (count_on (λ l. nat_le l line) ms)

unfoldable pub too_many_communities_lines : Network → List ℕ
too_many_communities_lines n = filter (first_exceeds 1024 (mentions n)) (map (λ (m : Mention). m.line) (mentions n))

-- PrependForm: a `set as-path prepend` line with a number that is not the AS number of its router's
-- BGP process

abbrev pub foreign_prepend : Router → Option Prepend → List ℕ
foreign_prepend router prepend = option_map_or (λ (p : Prepend). if list_all (has_number router) p.numbers then [] else p.line ∷ []) prepend []

abbrev pub foreign_prepends_in_map : Router → RouteMap → List ℕ
foreign_prepends_in_map router map = flat_map (λ (entry : MapEntry). foreign_prepend router entry.prepend) map.entries

abbrev pub foreign_prepends_of : Router → List ℕ
foreign_prepends_of router = flat_map (foreign_prepends_in_map router) router.route_maps

unfoldable pub prepend_form_lines : Network → List ℕ
prepend_form_lines n = flat_map foreign_prepends_of n.routers

-- PrependIn: a `neighbor A route-map M in` line where an entry of M has `set as-path prepend`

abbrev pub prepends_in_map : RouteMap → Bool
prepends_in_map map = list_any (λ (entry : MapEntry). is_some entry.prepend) map.entries

abbrev pub has_prepending_map : Router → List ℕ → Bool
has_prepending_map router name = list_any (λ (map : RouteMap). prepends_in_map map && bytes_eq name map.name) router.route_maps

abbrev pub prepending_maps_in_of : Router → List ℕ
prepending_maps_in_of router = flat_map (λ (neighbor : Neighbor). line_naming (has_prepending_map router) neighbor.map_in) (neighbors_of router)

unfoldable pub prepend_in_lines : Network → List ℕ
prepend_in_lines n = flat_map prepending_maps_in_of n.routers
