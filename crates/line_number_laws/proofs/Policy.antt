-- What a session imports does not depend on line numbers.
use Rattle.std.proofs.Common.{◌≡◌, ℕ, Bool, true, false, cond, not, List, [], ◌∷◌, Option, Some, None, map, filter, refl, ap, ◌∙◌}
use Rattle.std.specs.Prelude.{bytes_eq}
use Rattle.std.specs.Option.{option_map, option_map_or, option_and_then}
use Rattle.base_kit.specs.Prefixes.{Prefix}
use Rattle.cfg_ast.specs.declared.bgp.Neighbor.{Neighbor}
use Rattle.cfg_ast.specs.declared.network.Named.{Named}
use Rattle.cfg_ast.specs.declared.network.Router.{Router}
use Rattle.cfg_ast.specs.declared.policy.CommunityLine.{CommunityLine}
use Rattle.cfg_ast.specs.declared.policy.CommunityList.{CommunityList}
use Rattle.cfg_ast.specs.declared.policy.MapEntry.{MapEntry}
use Rattle.cfg_ast.specs.declared.policy.NameLine.{NameLine}
use Rattle.cfg_ast.specs.declared.policy.PrefixEntry.{PrefixEntry}
use Rattle.cfg_ast.specs.declared.policy.PrefixList.{PrefixList}
use Rattle.cfg_ast.specs.declared.policy.Prepend.{Prepend}
use Rattle.cfg_ast.specs.declared.policy.RouteMap.{RouteMap}
use Rattle.cfg_ast.specs.meaning.Lists.{line_holds, line_is, first_line_decides, community_list_permits}
use Rattle.cfg_ast.specs.meaning.PrefixLists.{prefix_entry_holds, first_entry_decides, prefix_list_permits}
use Rattle.cfg_ast.specs.meaning.Policy.{prefix_list_named, community_list_named, route_map_named, prefixes_permitted_by, list_answer, comms_permitted_by, prefixes_match, communities_match, map_entry_holds, without_deleted_by, after_change, deletion_list, comms_set, prepend_count, Permitted, permitted_by_entry, verdict_of, passes_list, passed_by_map, passed_by, name_of, received_as, received_by}
use Rattle.cfg_ast.specs.printing.Bare.{bare_named, bare_neighbor, bare_community_line, bare_community_list, bare_map_entry, bare_name_line, bare_prefix_entry, bare_prefix_list, bare_prepend, bare_route_map, bare_router}
use Rattle.route_maps.specs.Sessions.{imported_as, session_import}
use Rattle.line_number_laws.proofs.Interfaces.{preference_bare}
use Rattle.line_number_laws.proofs.Mapped.{any_alike, find_mapped}

-- Lists.

entries_bare : (entries : List PrefixEntry) (p : Prefix) → first_entry_decides (map bare_prefix_entry entries) p ≡ first_entry_decides entries p
entries_bare [] p = refl
entries_bare (entry ∷ entries) p = ap (λ rest. cond (prefix_entry_holds entry p) entry.permit rest) (entries_bare entries p)

lines_bare : (holds : CommunityLine → Bool) → ((line : CommunityLine) → holds (bare_community_line line) ≡ holds line) → (lines : List CommunityLine) →
    first_line_decides holds (map bare_community_line lines) ≡ first_line_decides holds lines
lines_bare holds same [] = refl
lines_bare holds same (line ∷ lines) = rw (same line, lines_bare holds same lines) refl

answer_bare : (exact : Bool) (comms : List ℕ) (list : CommunityList) → list_answer exact comms (bare_community_list list) ≡ list_answer exact comms list
answer_bare true comms list = lines_bare (line_is comms) (λ line. refl) list.lines
answer_bare false comms list = lines_bare (line_holds comms) (λ line. refl) list.lines

-- What a name leads to.

prefix_list_bare : (r : Router) (name : List ℕ) → prefix_list_named (bare_router r) name ≡ option_map bare_prefix_list (prefix_list_named r name)
prefix_list_bare r name = find_mapped bare_prefix_list (λ (list : PrefixList). bytes_eq list.name name) (λ (list : PrefixList). bytes_eq list.name name)
    (λ list. refl) r.prefix_lists

community_list_bare : (r : Router) (name : List ℕ) → community_list_named (bare_router r) name ≡ option_map bare_community_list (community_list_named r name)
community_list_bare r name = find_mapped bare_community_list (λ (list : CommunityList). bytes_eq list.name name)
    (λ (list : CommunityList). bytes_eq list.name name) (λ list. refl) r.community_lists

route_map_bare : (r : Router) (name : List ℕ) → route_map_named (bare_router r) name ≡ option_map bare_route_map (route_map_named r name)
route_map_bare r name = find_mapped bare_route_map (λ (map : RouteMap). bytes_eq map.name name) (λ (map : RouteMap). bytes_eq map.name name) (λ map. refl)
    r.route_maps

prefixes_permitted_bare : (r : Router) (p : Prefix) (name : List ℕ) → prefixes_permitted_by (bare_router r) p name ≡ prefixes_permitted_by r p name
prefixes_permitted_bare r p name = ap (λ (o : Option PrefixList). option_map_or (λ list. prefix_list_permits list p) o false) (prefix_list_bare r name)
    ∙ step (prefix_list_named r name) where
      step : (o : Option PrefixList) → option_map_or (λ list. prefix_list_permits list p) (option_map bare_prefix_list o) false ≡ option_map_or
          (λ list. prefix_list_permits list p) o false
      step None = refl
      step (Some list) = entries_bare list.entries p

comms_permitted_bare : (r : Router) (exact : Bool) (comms : List ℕ) (name : List ℕ) →
    comms_permitted_by (bare_router r) exact comms name ≡ comms_permitted_by r exact comms name
comms_permitted_bare r exact comms name = ap (λ (o : Option CommunityList). option_map_or (list_answer exact comms) o false) (community_list_bare r name)
    ∙ step (community_list_named r name) where
      step : (o : Option CommunityList) → option_map_or (list_answer exact comms) (option_map bare_community_list o) false
          ≡ option_map_or (list_answer exact comms)
          o false
      step None = refl
      step (Some list) = answer_bare exact comms list

-- Entries.

prefixes_match_bare : (r : Router) (p : Prefix) (o : Option NameLine) → prefixes_match (bare_router r) p (option_map bare_name_line o) ≡ prefixes_match r p o
prefixes_match_bare r p None = refl
prefixes_match_bare r p (Some line) = any_alike (prefixes_permitted_by (bare_router r) p) (prefixes_permitted_by r p) (prefixes_permitted_bare r p) line.names

comms_match_bare : (r : Router) (exact : Bool) (comms : List ℕ) (o : Option NameLine) →
    communities_match (bare_router r) exact comms (option_map bare_name_line o) ≡ communities_match r exact comms o
comms_match_bare r exact comms None = refl
comms_match_bare r exact comms (Some line) =
    any_alike (comms_permitted_by (bare_router r) exact comms) (comms_permitted_by r exact comms) (comms_permitted_bare r exact comms) line.names

entry_holds_bare : (r : Router) (p : Prefix) (comms : List ℕ) (entry : MapEntry) →
    map_entry_holds (bare_router r) p comms (bare_map_entry entry) ≡ map_entry_holds r p comms entry
entry_holds_bare r p comms entry = rw (prefixes_match_bare r p entry.prefixes, comms_match_bare r entry.exact comms entry.comms) refl

without_bare : (o : Option CommunityList) (comms : List ℕ) → without_deleted_by (option_map bare_community_list o) comms ≡ without_deleted_by o comms
without_bare None comms = refl
without_bare (Some list) comms = kept comms where
  kept : (cs : List ℕ) → filter (λ c. not (community_list_permits (bare_community_list list) (c ∷ []))) cs ≡ filter
      (λ c. not (community_list_permits list (c ∷ []))) cs
  kept [] = refl
  kept (c ∷ cs) = rw (lines_bare (line_holds (c ∷ [])) (λ line. refl) list.lines, kept cs) refl

deletion_bare : (r : Router) (o : Option Named) → deletion_list (bare_router r) (option_map bare_named o) ≡ option_map bare_community_list (deletion_list r o)
deletion_bare r None = refl
deletion_bare r (Some named) = community_list_bare r named.name

comms_set_bare : (r : Router) (entry : MapEntry) (comms : List ℕ) → comms_set (bare_router r) (bare_map_entry entry) comms ≡ comms_set r entry comms
comms_set_bare r entry comms =
    ap (after_change entry.change)
    (ap (λ (o : Option CommunityList). without_deleted_by o comms) (deletion_bare r entry.delete) ∙ without_bare (deletion_list r entry.delete) comms)

prepend_count_bare : (o : Option Prepend) → prepend_count (option_map bare_prepend o) ≡ prepend_count o
prepend_count_bare None = refl
prepend_count_bare (Some line) = refl

by_entry_bare : (r : Router) (comms : List ℕ) (entry : MapEntry) →
    permitted_by_entry (bare_router r) comms (bare_map_entry entry) ≡ permitted_by_entry r comms entry
by_entry_bare r comms entry = rw (comms_set_bare r entry comms, prepend_count_bare entry.prepend) refl

verdict_bare : (r : Router) (p : Prefix) (entries : List MapEntry) (comms : List ℕ) →
    verdict_of (bare_router r) p (map bare_map_entry entries) comms ≡ verdict_of r p entries comms
verdict_bare r p [] comms = refl
verdict_bare r p (entry ∷ entries) comms = rw (entry_holds_bare r p comms entry, by_entry_bare r comms entry, verdict_bare r p entries comms) refl

-- Through a list and a map.

name_bare : (o : Option Named) → name_of (option_map bare_named o) ≡ name_of o
name_bare None = refl
name_bare (Some named) = refl

passes_bare : (r : Router) (p : Prefix) (o : Option (List ℕ)) → passes_list (bare_router r) p o ≡ passes_list r p o
passes_bare r p None = refl
passes_bare r p (Some name) = prefixes_permitted_bare r p name

by_map_bare : (r : Router) (p : Prefix) (o : Option (List ℕ)) (comms : List ℕ) → passed_by_map (bare_router r) p o comms ≡ passed_by_map r p o comms
by_map_bare r p None comms = refl
by_map_bare r p (Some name) comms = ap (option_and_then (λ (map : RouteMap). verdict_of (bare_router r) p map.entries comms)) (route_map_bare r name)
    ∙ step (route_map_named r name) where
      step : (o : Option RouteMap) → option_and_then (λ (map : RouteMap). verdict_of (bare_router r) p map.entries comms)
          (option_map bare_route_map o) ≡ option_and_then (λ (map : RouteMap). verdict_of r p map.entries comms) o
      step None = refl
      step (Some map) = verdict_bare r p map.entries comms

passed_bare : (r : Router) (p : Prefix) (list map : Option (List ℕ)) (comms : List ℕ) →
    passed_by (bare_router r) p list map comms ≡ passed_by r p list map comms
passed_bare r p list map comms = rw (passes_bare r p list, by_map_bare r p map comms) refl

-- through the list and the map that two lines name
named_bare : (r : Router) (p : Prefix) (list map : Option Named) (comms : List ℕ) →
    passed_by (bare_router r) p (name_of (option_map bare_named list)) (name_of (option_map bare_named map)) comms ≡ passed_by r p (name_of list) (name_of map)
    comms
named_bare r p list map comms = rw (name_bare list, name_bare map) (passed_bare r p (name_of list) (name_of map) comms)

received_as_bare : (importer : Router) (adds : ℕ) (o : Option Permitted) →
    option_map (received_as (bare_router importer) adds) o ≡ option_map (received_as importer adds) o
received_as_bare importer adds None = refl
received_as_bare importer adds (Some permitted) = rw (preference_bare importer) refl

received_by_bare : (importer : Router) (into : Neighbor) (p : Prefix) (sends : Bool) (sent : Permitted) →
    received_by (bare_router importer) (bare_neighbor into) p sends sent ≡ received_by importer into p sends sent
received_by_bare importer into p sends sent =
    ap (option_map (received_as (bare_router importer) sent.adds)) (named_bare importer p into.list_in into.map_in (cond sends sent.comms []))
    ∙ received_as_bare importer sent.adds (passed_by importer p (name_of into.list_in) (name_of into.map_in) (cond sends sent.comms []))

pub session_import_bare : (p : Prefix) (exporter : Router) (out : Neighbor) (importer : Router) (into : Neighbor) (comms : List ℕ)
    → session_import p (bare_router exporter) (bare_neighbor out) (bare_router importer) (bare_neighbor into) comms ≡ session_import p exporter out importer
    into comms
session_import_bare p exporter out importer into comms =
    ap (λ (o : Option Permitted). option_map imported_as (option_and_then (received_by (bare_router importer) (bare_neighbor into) p out.sends) o))
    (named_bare exporter p out.list_out out.map_out comms)
    ∙ step (passed_by exporter p (name_of out.list_out) (name_of out.map_out) comms)
  where
    step : (o : Option Permitted) → option_map imported_as
        (option_and_then (received_by (bare_router importer) (bare_neighbor into) p out.sends) o) ≡ option_map imported_as
        (option_and_then (received_by importer into p out.sends) o)
    step None = refl
    step (Some sent) = ap (option_map imported_as) (received_by_bare importer into p out.sends sent)
