-- How many policy lines have a fault does not depend on line numbers: in the network without line
-- numbers each of these faults is at line 0.
use Rattle.std.proofs.Common.{◌≡◌, ℕ, Bool, true, false, cond, not, ◌&&◌, List, [], ◌∷◌, ◌++◌, Option, Some, None, map, length, refl, sym, ap, ◌∙◌}
use Rattle.std.specs.Prelude.{flat_map, nat_lt, bytes_eq, is_some}
use Rattle.std.specs.Option.{option_map}
use Rattle.std.specs.List.{list_any, list_all}
use Rattle.std.proofs.lemmas.List.{map-append}
use Rattle.cfg_ast.specs.declared.bgp.Neighbor.{Neighbor}
use Rattle.cfg_ast.specs.declared.network.Named.{Named}
use Rattle.cfg_ast.specs.declared.network.Network.{Network}
use Rattle.cfg_ast.specs.declared.network.Router.{Router}
use Rattle.cfg_ast.specs.declared.policy.CommunityList.{CommunityList}
use Rattle.cfg_ast.specs.declared.policy.MapEntry.{MapEntry}
use Rattle.cfg_ast.specs.declared.policy.NameLine.{NameLine}
use Rattle.cfg_ast.specs.declared.policy.PrefixList.{PrefixList}
use Rattle.cfg_ast.specs.declared.policy.Prepend.{Prepend}
use Rattle.cfg_ast.specs.declared.policy.RouteMap.{RouteMap}
use Rattle.cfg_ast.specs.meaning.PolicyFaults.{line_naming, match_line_naming, lacks_map, map_lines_naming, undefined_maps_of, undefined_map_lines, lacks_prefix_list, lacks_community_list, list_lines_naming, entry_lines_naming, lines_in_map_naming, undefined_lists_of, undefined_list_lines, is_name, is_deleted_in, is_deleted, several_at, several_in, wide_deletions_of, delete_list_lines, foreign_prepend, foreign_prepends_in_map, foreign_prepends_of, prepend_form_lines, prepends_in_map, has_prepending_map, prepending_maps_in_of, prepend_in_lines}
use Rattle.cfg_check.specs.Items.{foreign_prepend_in, map_in_naming}
use Rattle.cfg_ast.specs.meaning.Topology.{neighbors_of, has_number}
use Rattle.cfg_ast.specs.printing.Bare.{bare_community_line, bare_community_list, bare_map_entry, bare_name_line, bare_named, bare_neighbor, bare_prefix_list, bare_prepend, bare_route_map, bare_router, bare}
use Rattle.line_number_laws.proofs.Interfaces.{neighbors_bare, number_bare}
use Rattle.line_number_laws.proofs.Mapped.{any_mapped, any_alike, all_alike, flat_mapped}
use Rattle.line_number_laws.proofs.RouterLines.{at_zero}

zero_append : (xs ys : List ℕ) → at_zero xs ++ at_zero ys ≡ at_zero (xs ++ ys)
zero_append xs ys = sym (map-append (λ line. 0) xs ys)

-- a line, on a condition
zero_if : (b : Bool) (line : ℕ) → cond b (0 ∷ []) [] ≡ at_zero (cond b (line ∷ []) [])
zero_if true line = refl
zero_if false line = refl

zero_unless : (b : Bool) (line : ℕ) → cond b [] (0 ∷ []) ≡ at_zero (cond b [] (line ∷ []))
zero_unless true line = refl
zero_unless false line = refl

-- Lines that give names.

naming : (f g : List ℕ → Bool) → ((name : List ℕ) → f name ≡ g name) → (o : Option Named) → line_naming f (option_map bare_named o) ≡ at_zero (line_naming g o)
naming f g same None = refl
naming f g same (Some named) = rw (same named.name) (zero_if (g named.name) named.line)

match_naming : (f g : List ℕ → Bool) → ((name : List ℕ) → f name ≡ g name) → (o : Option NameLine) →
    match_line_naming f (option_map bare_name_line o) ≡ at_zero (match_line_naming g o)
match_naming f g same None = refl
match_naming f g same (Some line) = rw (any_alike f g same line.names) (zero_if (list_any g line.names) line.line)

two_naming : (f g : List ℕ → Bool) → ((name : List ℕ) → f name ≡ g name) → (o p : Option Named) → line_naming f (option_map bare_named o)
    ++ line_naming f (option_map bare_named p) ≡ at_zero (line_naming g o ++ line_naming g p)
two_naming f g same o p = rw (naming f g same o, naming f g same p) (zero_append (line_naming g o) (line_naming g p))

-- the lines of the router's neighbours
by_neighbors : (f g : Neighbor → List ℕ) → ((q : Neighbor) → f (bare_neighbor q) ≡ at_zero (g q)) → (r : Router) →
    flat_map f (neighbors_of (bare_router r)) ≡ at_zero (flat_map g (neighbors_of r))
by_neighbors f g same r = ap (flat_map f) (neighbors_bare r) ∙ flat_mapped bare_neighbor (λ line. 0) f g same (neighbors_of r)

-- the lines of all routers
by_routers : (f : Router → List ℕ) → ((r : Router) → f (bare_router r) ≡ at_zero (f r)) → (n : Network) →
    flat_map f (map bare_router n.routers) ≡ at_zero (flat_map f n.routers)
by_routers f same n = flat_mapped bare_router (λ line. 0) f f same n.routers

-- Names that are not defined.

lacks_map_bare : (r : Router) (name : List ℕ) → lacks_map (bare_router r) name ≡ lacks_map r name
lacks_map_bare r name = ap not (any_mapped bare_route_map (λ (map : RouteMap). bytes_eq name map.name) (λ (map : RouteMap). bytes_eq name map.name)
    (λ map. refl) r.route_maps)

pub undefined_map_bare : (n : Network) → undefined_map_lines (bare n) ≡ at_zero (undefined_map_lines n)
unfolding undefined_map_lines
undefined_map_bare n =
    by_routers undefined_maps_of
    (λ r. by_neighbors (map_lines_naming (lacks_map (bare_router r))) (map_lines_naming (lacks_map r))
    (λ q. two_naming (lacks_map (bare_router r)) (lacks_map r) (lacks_map_bare r) q.map_in q.map_out) r) n

lacks_prefix_list_bare : (r : Router) (name : List ℕ) → lacks_prefix_list (bare_router r) name ≡ lacks_prefix_list r name
lacks_prefix_list_bare r name = ap not (any_mapped bare_prefix_list (λ (list : PrefixList). bytes_eq name list.name)
    (λ (list : PrefixList). bytes_eq name list.name) (λ list. refl) r.prefix_lists)

lacks_community_list_bare : (r : Router) (name : List ℕ) → lacks_community_list (bare_router r) name ≡ lacks_community_list r name
lacks_community_list_bare r name = ap not
    (any_mapped bare_community_list (λ (list : CommunityList). bytes_eq name list.name) (λ (list : CommunityList). bytes_eq name list.name) (λ list. refl)
    r.community_lists)

entry_bare : (r : Router) (entry : MapEntry) →
    entry_lines_naming (lacks_prefix_list (bare_router r)) (lacks_community_list (bare_router r)) (bare_map_entry entry) ≡ at_zero
    (entry_lines_naming (lacks_prefix_list r) (lacks_community_list r) entry)
entry_bare r entry =
    rw (
      match_naming (lacks_prefix_list (bare_router r)) (lacks_prefix_list r) (lacks_prefix_list_bare r) entry.prefixes,
      match_naming (lacks_community_list (bare_router r)) (lacks_community_list r) (lacks_community_list_bare r) entry.comms,
      naming (lacks_community_list (bare_router r)) (lacks_community_list r) (lacks_community_list_bare r) entry.delete,
    )
    (ap (λ ls. ls ++ at_zero (line_naming (lacks_community_list r) entry.delete))
    (zero_append (match_line_naming (lacks_prefix_list r) entry.prefixes) (match_line_naming (lacks_community_list r) entry.comms))
    ∙ zero_append (match_line_naming (lacks_prefix_list r) entry.prefixes ++ match_line_naming (lacks_community_list r) entry.comms)
    (line_naming (lacks_community_list r) entry.delete))

in_maps_bare : (r : Router) → flat_map (lines_in_map_naming (lacks_prefix_list (bare_router r)) (lacks_community_list (bare_router r)))
    (map bare_route_map r.route_maps) ≡ at_zero (flat_map (lines_in_map_naming (lacks_prefix_list r) (lacks_community_list r)) r.route_maps)
in_maps_bare r =
    flat_mapped bare_route_map (λ line. 0) (lines_in_map_naming (lacks_prefix_list (bare_router r)) (lacks_community_list (bare_router r)))
    (lines_in_map_naming (lacks_prefix_list r) (lacks_community_list r))
    (λ map. flat_mapped bare_map_entry (λ line. 0) (entry_lines_naming (lacks_prefix_list (bare_router r)) (lacks_community_list (bare_router r)))
    (entry_lines_naming (lacks_prefix_list r) (lacks_community_list r)) (entry_bare r) map.entries)
    r.route_maps

lists_bare : (r : Router) → flat_map (list_lines_naming (lacks_prefix_list (bare_router r))) (neighbors_of (bare_router r)) ≡ at_zero
    (flat_map (list_lines_naming (lacks_prefix_list r)) (neighbors_of r))
lists_bare r =
    by_neighbors (list_lines_naming (lacks_prefix_list (bare_router r))) (list_lines_naming (lacks_prefix_list r))
    (λ q. two_naming (lacks_prefix_list (bare_router r)) (lacks_prefix_list r) (lacks_prefix_list_bare r) q.list_in q.list_out) r

pub undefined_list_bare : (n : Network) → undefined_list_lines (bare n) ≡ at_zero (undefined_list_lines n)
unfolding undefined_list_lines
undefined_list_bare n =
    by_routers undefined_lists_of
    (λ r. rw (lists_bare r, in_maps_bare r)
    (zero_append (flat_map (list_lines_naming (lacks_prefix_list r)) (neighbors_of r))
    (flat_map (lines_in_map_naming (lacks_prefix_list r) (lacks_community_list r)) r.route_maps))) n

-- Lists that delete.

is_name_bare : (name : List ℕ) (o : Option Named) → is_name name (option_map bare_named o) ≡ is_name name o
is_name_bare name None = refl
is_name_bare name (Some named) = refl

is_deleted_bare : (r : Router) (name : List ℕ) → is_deleted (bare_router r) name ≡ is_deleted r name
is_deleted_bare r name =
    any_mapped bare_route_map (is_deleted_in name) (is_deleted_in name)
    (λ map. any_mapped bare_map_entry (λ (entry : MapEntry). is_name name entry.delete) (λ (entry : MapEntry). is_name name entry.delete)
    (λ entry. is_name_bare name entry.delete) map.entries) r.route_maps

several_bare : (r : Router) (list : CommunityList) →
    several_in (is_deleted (bare_router r)) (bare_community_list list) ≡ at_zero (several_in (is_deleted r) list)
several_bare r list =
    rw (
      is_deleted_bare r list.name,
      flat_mapped bare_community_line (λ line. 0) several_at several_at
          (λ line. zero_if (nat_lt 1 (length line.comms)) line.line) list.lines,
    )
    (step (is_deleted r list.name))
  where
    step : (b : Bool) → cond b (at_zero (flat_map several_at list.lines)) [] ≡ at_zero (cond b (flat_map several_at list.lines) [])
    step true = refl
    step false = refl

pub delete_list_bare : (n : Network) → delete_list_lines (bare n) ≡ at_zero (delete_list_lines n)
unfolding delete_list_lines
delete_list_bare n =
    by_routers wide_deletions_of
    (λ r. flat_mapped bare_community_list (λ line. 0) (several_in (is_deleted (bare_router r))) (several_in (is_deleted r)) (several_bare r) r.community_lists)
    n

-- Numbers before a path.

foreign_bare : (r : Router) (o : Option Prepend) → foreign_prepend (bare_router r) (option_map bare_prepend o) ≡ at_zero (foreign_prepend r o)
foreign_bare r None = refl
foreign_bare r (Some prepend) = rw (all_alike (has_number (bare_router r)) (has_number r) (number_bare r) prepend.numbers)
    (zero_unless (list_all (has_number r) prepend.numbers) prepend.line)

pub prepend_form_bare : (n : Network) → prepend_form_lines (bare n) ≡ at_zero (prepend_form_lines n)
unfolding prepend_form_lines
prepend_form_bare n =
    by_routers foreign_prepends_of
    (λ r. flat_mapped bare_route_map (λ line. 0) (foreign_prepends_in_map (bare_router r)) (foreign_prepends_in_map r)
    (λ map. flat_mapped bare_map_entry (λ line. 0) (foreign_prepend_in (bare_router r)) (foreign_prepend_in r) (λ entry. foreign_bare r entry.prepend)
    map.entries) r.route_maps) n

prepends_bare : (o : Option Prepend) → is_some (option_map bare_prepend o) ≡ is_some o
prepends_bare None = refl
prepends_bare (Some prepend) = refl

prepends_in_bare : (map : RouteMap) → prepends_in_map (bare_route_map map) ≡ prepends_in_map map
prepends_in_bare map = any_mapped bare_map_entry (λ (entry : MapEntry). is_some entry.prepend) (λ (entry : MapEntry). is_some entry.prepend)
    (λ entry. prepends_bare entry.prepend) map.entries

prepending_bare : (r : Router) (name : List ℕ) → has_prepending_map (bare_router r) name ≡ has_prepending_map r name
prepending_bare r name =
    any_mapped bare_route_map (λ (map : RouteMap). prepends_in_map map && bytes_eq name map.name)
    (λ (map : RouteMap). prepends_in_map map && bytes_eq name map.name)
    (λ map. ap (λ b. b && bytes_eq name map.name) (prepends_in_bare map)) r.route_maps

pub prepend_in_bare : (n : Network) → prepend_in_lines (bare n) ≡ at_zero (prepend_in_lines n)
unfolding prepend_in_lines
prepend_in_bare n =
    by_routers prepending_maps_in_of
    (λ r. by_neighbors (map_in_naming (has_prepending_map (bare_router r))) (map_in_naming (has_prepending_map r))
    (λ q. naming (has_prepending_map (bare_router r)) (has_prepending_map r) (prepending_bare r) q.map_in) r) n
