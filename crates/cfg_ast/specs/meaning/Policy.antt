-- The verdicts of a router's own route maps on a prefix and a set of communities, as IOS gives them
-- (RFC 1997 for communities), and what is imported over a BGP session (RFC 4271 section 9.1; section
-- 5.1.5 for the preference that is not sent).
use Rattle.std.specs.Prelude.{ℕ, Bool, true, false, not, ◌&&◌, List, [], ◌∷◌, Option, Some, None, filter, find, length, bytes_eq, unwrap_or, if◌then◌else◌}
use Rattle.std.specs.Option.{option_map, option_map_or, option_and_then}
use Rattle.std.specs.List.{list_any}
use Rattle.base_kit.specs.Prefixes.{Prefix}
use Rattle.base_kit.specs.Sets.{with_numbers}
use Rattle.cfg_ast.specs.declared.bgp.Base.{Base}
use Rattle.cfg_ast.specs.declared.bgp.BgpProcess.{BgpProcess}
use Rattle.cfg_ast.specs.declared.bgp.Neighbor.{Neighbor}
use Rattle.cfg_ast.specs.declared.network.Named.{Named}
use Rattle.cfg_ast.specs.declared.network.Router.{Router}
use Rattle.cfg_ast.specs.declared.policy.Change.{Change}
use Rattle.cfg_ast.specs.declared.policy.Change.TheVariants.{Clear, Replace, Append}
use Rattle.cfg_ast.specs.declared.policy.CommunityList.{CommunityList}
use Rattle.cfg_ast.specs.declared.policy.MapEntry.{MapEntry}
use Rattle.cfg_ast.specs.declared.policy.NameLine.{NameLine}
use Rattle.cfg_ast.specs.declared.policy.PrefixList.{PrefixList}
use Rattle.cfg_ast.specs.declared.policy.Prepend.{Prepend}
use Rattle.cfg_ast.specs.declared.policy.RouteMap.{RouteMap}
use Rattle.cfg_ast.specs.meaning.Lists.{community_list_permits, community_list_permits_exactly}
use Rattle.cfg_ast.specs.meaning.PrefixLists.{prefix_list_permits}

-- The lists and maps of a router by name.

abbrev pub prefix_list_named : Router → List ℕ → Option PrefixList
prefix_list_named router name = find (λ (list : PrefixList). bytes_eq list.name name) router.prefix_lists

abbrev pub community_list_named : Router → List ℕ → Option CommunityList
community_list_named router name = find (λ (list : CommunityList). bytes_eq list.name name) router.community_lists

abbrev pub route_map_named : Router → List ℕ → Option RouteMap
route_map_named router name = find (λ (map : RouteMap). bytes_eq map.name name) router.route_maps

-- the prefix list of that name permits
abbrev pub prefixes_permitted_by : Router → Prefix → List ℕ → Bool
prefixes_permitted_by router p name = option_map_or (λ list. prefix_list_permits list p) (prefix_list_named router name) false

-- a list's answer to a set of communities, exactly or not
abbrev pub list_answer : Bool → List ℕ → CommunityList → Bool
list_answer exact comms list = if exact then community_list_permits_exactly list comms else community_list_permits list comms

-- the community list of that name permits
abbrev pub comms_permitted_by : Router → Bool → List ℕ → List ℕ → Bool
comms_permitted_by router exact comms name = option_map_or (list_answer exact comms) (community_list_named router name) false

-- a match line holds where one of its lists permits, and an absent one holds
abbrev pub prefixes_match : Router → Prefix → Option NameLine → Bool
prefixes_match router p line = option_map_or (λ (l : NameLine). list_any (prefixes_permitted_by router p) l.names) line true

abbrev pub communities_match : Router → Bool → List ℕ → Option NameLine → Bool
communities_match router exact comms line = option_map_or (λ (l : NameLine). list_any (comms_permitted_by router exact comms) l.names) line true

-- an entry holds where all of its match lines hold
abbrev pub map_entry_holds : Router → Prefix → List ℕ → MapEntry → Bool
map_entry_holds router p comms entry = prefixes_match router p entry.prefixes && communities_match router entry.exact comms entry.comms

-- the communities that the deletion list permits one by one are removed
abbrev pub without_deleted_by : Option CommunityList → List ℕ → List ℕ
without_deleted_by None comms = comms
without_deleted_by (Some list) comms = filter (λ c. not (community_list_permits list (c ∷ []))) comms

abbrev pub after_change : Option Change → List ℕ → List ℕ
after_change None comms = comms
after_change (Some Clear) comms = []
after_change (Some (Replace by)) comms = by
after_change (Some (Append more)) comms = with_numbers more comms

-- the list that a deletion names
abbrev pub deletion_list : Router → Option Named → Option CommunityList
deletion_list router delete = option_and_then (λ (named : Named). community_list_named router named.name) delete

-- first the deletion, and then the change
abbrev pub comms_set : Router → MapEntry → List ℕ → List ℕ
comms_set router entry comms = after_change entry.change (without_deleted_by (deletion_list router entry.delete) comms)

-- how many AS numbers the entry puts before the path
abbrev pub prepend_count : Option Prepend → ℕ
prepend_count prepend = option_map_or (λ (line : Prepend). length line.numbers) prepend 0

-- a route that a map permits: the preference that it sets, the communities, and how many AS numbers
-- it puts before the path
pub record Permitted : Type 0 where
  pub lp : Option ℕ
  pub comms : List ℕ
  pub adds : ℕ

abbrev pub permitted_by_entry : Router → List ℕ → MapEntry → Option Permitted
permitted_by_entry router comms entry = if entry.permit then Some
    (record { lp = entry.lp; comms = comms_set router entry comms; adds = prepend_count entry.prepend }) else None

-- the first entry that holds decides, and the end denies
abbrev pub verdict_of : Router → Prefix → List MapEntry → List ℕ → Option Permitted
verdict_of router p [] comms = None
verdict_of router p (entry ∷ entries) comms =
    if map_entry_holds router p comms entry then permitted_by_entry router comms entry else verdict_of router p entries comms

abbrev pub permitted_as_is : List ℕ → Permitted
permitted_as_is comms = record { lp = None; comms = comms; adds = 0 }

-- an absent list permits
abbrev pub passes_list : Router → Prefix → Option (List ℕ) → Bool
passes_list router p None = true
passes_list router p (Some name) = prefixes_permitted_by router p name

-- an absent map permits and changes nothing
abbrev pub passed_by_map : Router → Prefix → Option (List ℕ) → List ℕ → Option Permitted
passed_by_map router p None comms = Some (permitted_as_is comms)
passed_by_map router p (Some name) comms = option_and_then (λ (map : RouteMap). verdict_of router p map.entries comms) (route_map_named router name)

-- through a prefix list and then a map
abbrev pub passed_by : Router → Prefix → Option (List ℕ) → Option (List ℕ) → List ℕ → Option Permitted
passed_by router p list map comms = if passes_list router p list then passed_by_map router p map comms else None

abbrev pub name_of : Option Named → Option (List ℕ)
name_of named = option_map (λ (n : Named). n.name) named

-- the default preference of a router: that of its line, else 100
abbrev pub default_preference : Router → ℕ
default_preference router = option_map_or (λ (process : BgpProcess). option_map_or (λ (base : Base). base.value) process.base 100) router.bgp 100

-- a route that was imported
pub record Received : Type 0 where
  pub lp : ℕ
  pub comms : List ℕ
  pub adds : ℕ

-- the importer's own preference counts, and the exporter's count of AS numbers
abbrev pub received_as : Router → ℕ → Permitted → Received
received_as importer adds permitted = record { lp = unwrap_or permitted.lp (default_preference importer); comms = permitted.comms; adds = adds }

abbrev pub received_by : Router → Neighbor → Prefix → Bool → Permitted → Option Received
received_by importer line p sends sent =
    option_map (received_as importer sent.adds) (passed_by importer p (name_of line.list_in) (name_of line.map_in) (if sends then sent.comms else []))

-- What a router imports over a session from a route with these communities: through the exporter's
-- list and map, through the sending or not of communities, and through the importer's list and map.
abbrev pub import_of_session : Prefix → Router → Neighbor → Router → Neighbor → List ℕ → Option Received
import_of_session p exporter out importer into comms =
    option_and_then (received_by importer into p out.sends) (passed_by exporter p (name_of out.list_out) (name_of out.map_out) comms)
