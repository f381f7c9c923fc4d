-- What a router's in maps mean for a prefix puts no AS numbers before a path.
use Rattle.std.proofs.Common.{◌≡◌, ℕ, Bool, true, false, ◌&&◌, List, [], Option, Some, None, refl, ◌∙◌}
use Rattle.std.specs.Prelude.{Contains, is_some, bytes_eq, min}
use Rattle.std.proofs.lemmas.Cmp.{nat_list_eq_equiv}
use Rattle.std.proofs.lemmas.List.Elements.{All-from_recursion}
use Rattle.base_kit.specs.Prefixes.{Prefix}
use Rattle.cfg_ast.specs.meaning.Policy.{name_of, prepend_count}
use Rattle.cfg_ast.specs.meaning.PolicyFaults.{line_naming, prepends_in_map, has_prepending_map, prepending_maps_in_of, prepend_in_lines}
use Rattle.cfg_ast.specs.meaning.Topology.{neighbors_of}
use Rattle.cfg_ast.specs.declared.bgp.Neighbor.{Neighbor}
use Rattle.cfg_ast.specs.declared.network.Named.{Named}
use Rattle.cfg_ast.specs.declared.network.Network.{Network}
use Rattle.cfg_ast.specs.declared.network.Router.{Router}
use Rattle.cfg_ast.specs.declared.policy.MapEntry.{MapEntry}
use Rattle.cfg_ast.specs.declared.policy.Prepend.{Prepend}
use Rattle.cfg_ast.specs.declared.policy.RouteMap.{RouteMap}
use Rattle.route_maps.specs.declared.plain.PlainEntry.{PlainEntry}
use Rattle.specialize.proofs.Entries.{HoldsOfEntries, plain_holds}
use Rattle.specialize.proofs.Found.{contained_holds, none_pass, contained_empty, unless_given}
use Rattle.specialize.specs.OnePrefix.{own_preference}
use Rattle.specialize.specs.Sessions.{in_map, AddsNothing}

abbrev IsUnadded : PlainEntry → Type 0
IsUnadded entry = entry.adds ≡ 0

no_count : (prepend : Option Prepend) → is_some prepend ≡ false → min (prepend_count prepend) 255 ≡ 0
no_count None none = refl
no_count (Some line) none = absurd (cc)

second_false : (a b : Bool) → b ≡ true → (a && b) ≡ false → a ≡ false
second_false true b is none = absurd (cc)
second_false false b is none = refl

-- a map under a name that no prepending map has does not prepend
clear_map : (router : Router) (name : List ℕ) (m : RouteMap) → has_prepending_map router name ≡ false → Contains router.route_maps m →
    bytes_eq m.name name ≡ true → prepends_in_map m ≡ false
clear_map router name m none contained named =
    let test = λ (other : RouteMap). prepends_in_map other && bytes_eq name other.name in
    second_false (prepends_in_map m) (bytes_eq name m.name) (nat_list_eq_equiv.symm name m.name ∙ named)
    (contained_holds (λ (other : RouteMap). test other ≡ false) router.route_maps m (none_pass test router.route_maps none) contained)

named_adds_nothing : (router : Router) (own : Option ℕ) (named : Option Named) → line_naming (has_prepending_map router) named ≡ [] →
    HoldsOfEntries IsUnadded router own (name_of named)
named_adds_nothing router own None none m given entry in_map = absurd given.named
named_adds_nothing router own (Some named) none m given entry in_map =
    let clear = clear_map router named.name m (unless_given (has_prepending_map router named.name) named.line none) given.contained given.named in
    let test = λ (other : MapEntry). is_some other.prepend in
    no_count entry.prepend (contained_holds (λ (other : MapEntry). test other ≡ false) m.entries entry (none_pass test m.entries clear) in_map)

pub in_maps_add_nothing : (network : Network) (router : Router) (line : Neighbor) → prepend_in_lines network ≡ [] → Contains network.routers router →
    Contains (neighbors_of router) line → (p : Prefix) → AddsNothing (in_map p router line)
unfolding prepend_in_lines
in_maps_add_nothing network router line none in_network in_router p =
    let in_router_none = contained_empty prepending_maps_in_of network.routers router none in_network in
    let in_line_none = contained_empty (λ (q : Neighbor). line_naming (has_prepending_map router) q.map_in)
    (neighbors_of router) line in_router_none in_router in
    All-from_recursion IsUnadded (in_map p router line).entries
    (plain_holds IsUnadded router (name_of line.map_in) (name_of line.list_in) p true refl
    (named_adds_nothing router (own_preference router true) line.map_in in_line_none))
