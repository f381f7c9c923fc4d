-- The route maps of a router that is written, and the community lists that they name. The maps are
-- those of the acts of its links, numbered by first use; lists get names of their own.
use Rattle.std.specs.Prelude.{ℕ, ◌+◌, Bool, false, not, ◌&&◌, List, [], ◌∷◌, ◌++◌, Option, Some, None, map, filter, flat_map, nat_eq, is_some, codes, decimal, replicate, if◌then◌else◌}
use Rattle.std.specs.List.{enumerate_from, list_any, position_or_len}
use Rattle.std.specs.Option.{option_map, option_map_or}
use Rattle.base_kit.specs.declared.protocol.Protocol.{Protocol}
use Rattle.base_kit.specs.declared.protocol.Protocol.TheVariants.{Bgp as OverBgp, Ospf as OverOspf}
use Rattle.cfg_ast.specs.declared.network.Named.{Named}
use Rattle.cfg_ast.specs.declared.policy.CommunityList.{CommunityList}
use Rattle.cfg_ast.specs.declared.policy.MapEntry.{MapEntry}
use Rattle.cfg_ast.specs.declared.policy.NameLine.{NameLine}
use Rattle.cfg_ast.specs.declared.policy.Prepend.{Prepend}
use Rattle.cfg_ast.specs.declared.policy.RouteMap.{RouteMap}
use Rattle.cfg_ast.specs.printing.Bare.{bare_community_line}
use Rattle.cfg_ast.specs.text.PolicyForms.{empty_entry}
use Rattle.abstract_net.specs.declared.qlink.QLink.{QLink}
use Rattle.route_maps.specs.Same.{same_map}
use Rattle.route_maps.specs.declared.plain.Plain.{Plain}
use Rattle.route_maps.specs.declared.plain.PlainEntry.{PlainEntry}
use Rattle.srp_core.specs.declared.route.Act.{Act}
use Rattle.srp_core.specs.declared.route.Act.TheVariants.{Import, Cost}
use Rattle.srp_quotient.specs.Groups.{touches}
use Rattle.config_emit.specs.Plan.{Plan, act_into}

-- ---- what an act gives each end

abbrev pub other_end : ℕ → QLink → ℕ
other_end g l = if nat_eq l.low g then l.high else l.low

-- a map without entries, which denies all
abbrev pub closed_map : Plain
closed_map = record { entries = [] }

-- the importer's in map; a direction that carries nothing has one that denies all
abbrev pub act_in_map : Option Act → Plain
act_in_map (Some (Import out sends into)) = into
act_in_map (Some (Cost cost)) = closed_map
act_in_map None = closed_map

-- the exporter's out map, none where nothing is carried
abbrev pub act_out_map : Option Act → Option Plain
act_out_map (Some (Import out sends into)) = Some out
act_out_map (Some (Cost cost)) = None
act_out_map None = None

-- whether the exporter sends communities
abbrev pub sends_by : Option Act → Bool
sends_by (Some (Import out sends into)) = sends
sends_by (Some (Cost cost)) = false
sends_by None = false

-- ---- which maps are written, and their numbers

abbrev pub passes_all : PlainEntry → Bool
passes_all x = x.permit && (not (is_some x.lists) && (not (is_some x.lp) && (not (is_some x.change) && (not (is_some x.delete) && nat_eq x.adds 0))))

-- one entry that permits all and sets nothing: it is written as no line
abbrev pub is_whole : List PlainEntry → Bool
is_whole [] = false
is_whole (x ∷ []) = passes_all x
is_whole (x ∷ y ∷ xs) = false

abbrev pub if_written : Option Plain → List Plain
if_written None = []
if_written (Some m) = if is_whole m.entries then [] else m ∷ []

-- the maps of the neighbour that g has at a link: its in map, then its out map
abbrev pub maps_at : Plan → ℕ → QLink → List Plain
maps_at e g l = if_written (Some (act_in_map (act_into e g l))) ++ if_written (act_out_map (act_into e (other_end g l) l))

-- of maps that are equal except for names and lines, the first
abbrev pub firsts : List Plain → List Plain → List Plain
firsts seen [] = []
firsts seen (m ∷ ms) = if list_any (same_map m) seen then firsts seen ms else m ∷ firsts (m ∷ seen) ms

-- by first use, the neighbours of g gone through in order; OSPF has none
abbrev pub maps_over : Protocol → Plan → ℕ → List Plain
maps_over OverBgp e g = firsts [] (flat_map (maps_at e g) (filter (touches g) e.links))
maps_over OverOspf e g = []

-- the maps of a group
unfoldable pub maps_of : Plan → ℕ → List Plain
maps_of e g = maps_over e.problem.protocol e g

-- ---- names

-- map k is named POLICY-k
abbrev pub map_name : ℕ → List ℕ
map_name k = codes "POLICY-" ++ decimal k

-- a list of the entry s of map k is named POLICY-k-s- and its end
abbrev pub list_name : ℕ → ℕ → List ℕ → List ℕ
list_name k s end = map_name k ++ (45 ∷ (decimal s ++ (45 ∷ end)))

-- a match list ends in its place, from 1
abbrev pub match_name : ℕ → ℕ → ℕ → List ℕ
match_name k s i = list_name k s (decimal i)

-- a deletion list ends in D
abbrev pub deletion_name : ℕ → ℕ → List ℕ
deletion_name k s = list_name k s (codes "D")

-- the number of a map among those of its router, from 1
abbrev pub number_of_map : List Plain → Plain → ℕ
number_of_map maps m = position_or_len (same_map m) maps + 1

abbrev pub named : List ℕ → Named
named name = record { name = name; line = 0 }

-- the name that a neighbour gives for its map, none where the map is written as no line
abbrev pub name_of_map : List Plain → Option Plain → Option Named
name_of_map maps None = None
name_of_map maps (Some m) = if is_whole m.entries then None else Some (named (map_name (number_of_map maps m)))

-- ---- lists

-- a list under its new name, with the lines of the old one
abbrev pub written_list : List ℕ → CommunityList → CommunityList
written_list name list = record { name = name; lines = map bare_community_line list.lines }

abbrev pub match_list : ℕ → ℕ → ℕ × CommunityList → CommunityList
match_list k s (i, list) = written_list (match_name k s i) list

-- the lists that an entry of map k matches
abbrev pub match_lists : ℕ → PlainEntry → List CommunityList
match_lists k x = option_map_or (λ lists. map (match_list k x.seq) (enumerate_from 1 lists)) x.lists []

-- its deletion list
abbrev pub deletion_lists : ℕ → PlainEntry → List CommunityList
deletion_lists k x = option_map_or (λ list. written_list (deletion_name k x.seq) list ∷ []) x.delete []

abbrev pub lists_of_entry : ℕ → PlainEntry → List CommunityList
lists_of_entry k x = match_lists k x ++ deletion_lists k x

-- the lists of map k by entries and places
abbrev pub lists_of_map : ℕ × Plain → List CommunityList
lists_of_map (k, m) = flat_map (lists_of_entry k) m.entries

-- ---- entries

abbrev pub name_of_list : CommunityList → List ℕ
name_of_list list = list.name

abbrev pub names_line : List CommunityList → NameLine
names_line lists = record { names = map name_of_list lists; line = 0 }

-- the router's own AS number, as many times as the entry adds numbers
abbrev pub written_prepend : ℕ → ℕ → Option Prepend
written_prepend number adds = if nat_eq adds 0 then None else Some (record { numbers = replicate adds number; line = 0 })

-- An entry of map k of the router with that AS number. The mark of an exact match is written where lists are matched.
abbrev pub written_entry : ℕ → ℕ → PlainEntry → MapEntry
written_entry number k x = record {
  seq = x.seq;
  permit = x.permit;
  line = 0;
  prefixes = None;
  comms = option_map (λ lists. names_line (match_lists k x)) x.lists;
  exact = is_some x.lists && x.exact;
  lp = x.lp;
  change = x.change;
  change_line = 0;
  delete = option_map (λ list. named (deletion_name k x.seq)) x.delete;
  prepend = written_prepend number x.adds;
}

-- `deny 10`
abbrev pub denying_entry : MapEntry
denying_entry = empty_entry 10 false 0

-- a map without entries is written as one that denies
abbrev pub written_entries : ℕ → ℕ → List PlainEntry → List MapEntry
written_entries number k [] = denying_entry ∷ []
written_entries number k (x ∷ xs) = written_entry number k x ∷ map (written_entry number k) xs

-- map k of the router with that AS number
abbrev pub written_map : ℕ → ℕ × Plain → RouteMap
written_map number (k, m) = record { name = map_name k; entries = written_entries number k m.entries }
