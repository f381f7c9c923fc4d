-- What a router's maps mean for a prefix names only communities that the network names.
use Rattle.std.proofs.Common.{◌≡◌, ℕ, Bool, true, List, [], ◌∷◌, Option, Some, None, map, refl, ◌∙◌, ap}
use Rattle.std.specs.Prelude.{filter_map, flat_map, nat_eq, Contains, IfSome, bytes_eq, ◌||◌}
use Rattle.std.specs.List.{cons_option, AllByRecursion}
use Rattle.base_kit.proofs.Elements.{In, contains_in, in_contains, in_map, in_left, in_right, in_flat_map}
use Rattle.base_kit.proofs.SetFacts.{same_number, has-with_numbers}
use Rattle.base_kit.specs.Prefixes.{Prefix}
use Rattle.base_kit.specs.Sets.{has}
use Rattle.cfg_ast.specs.meaning.Policy.{community_list_named, deletion_list}
use Rattle.cfg_ast.specs.meaning.PolicyFaults.{mention_at, mentions_on, mentions_in_list, changed_by, mentions_in, mentions_in_map, mentions_of, mentions, community_of, communities_of}
use Rattle.cfg_ast.specs.declared.network.Named.{Named}
use Rattle.cfg_ast.specs.declared.network.Network.{Network}
use Rattle.cfg_ast.specs.declared.network.Router.{Router}
use Rattle.cfg_ast.specs.declared.policy.Change.{Change}
use Rattle.cfg_ast.specs.declared.policy.Change.TheVariants.{Clear, Replace, Append}
use Rattle.cfg_ast.specs.declared.policy.CommunityLine.{CommunityLine}
use Rattle.cfg_ast.specs.declared.policy.CommunityList.{CommunityList}
use Rattle.cfg_ast.specs.declared.policy.MapEntry.{MapEntry}
use Rattle.cfg_ast.specs.declared.policy.Mention.{Mention}
use Rattle.cfg_ast.specs.declared.policy.NameLine.{NameLine}
use Rattle.cfg_ast.specs.declared.policy.RouteMap.{RouteMap}
use Rattle.route_maps.specs.Within.{AreWithin, IsLineWithin, IsListWithin, AreListsWithin, IsChangeWithin, IsEntryWithin, IsMapWithin}
use Rattle.specialize.proofs.Entries.{plain_holds}
use Rattle.specialize.proofs.Found.{found_holds, each_contained, any_contained}
use Rattle.specialize.specs.OnePrefix.{lists_named, plain_of}

-- a community that is mentioned is known
mentioned : (n : Network) (mention : Mention) → In (mentions n) mention → has (communities_of n) mention.community ≡ true
unfolding communities_of
mentioned n mention here =
    let named = map community_of (mentions n) in
    let c = mention.community in
    has-with_numbers named [] c ∙ ap (λ b. b || has [] c)
    (any_contained (λ other. nat_eq other c) named c (contains_in named c (in_map community_of (mentions n) mention here)) (same_number c c refl))

of_line : (n : Network) (router : Router) (list : CommunityList) (line : CommunityLine) (c : ℕ) → In n.routers router → In router.community_lists list →
    In list.lines line → In line.comms c → has (communities_of n) c ≡ true
of_line n router list line c in_network in_router in_list in_line =
    let mention = mention_at line.line c in
    let on_line = in_map (mention_at line.line) line.comms c in_line in
    let in_lists = in_flat_map mentions_in_list router.community_lists list mention in_router (in_flat_map mentions_on list.lines line mention in_list on_line)
    in
    mentioned n mention (in_flat_map mentions_of n.routers router mention in_network
    (in_left (flat_map mentions_in_list router.community_lists) (flat_map mentions_in_map router.route_maps) mention in_lists))

of_change : (n : Network) (router : Router) (m : RouteMap) (entry : MapEntry) (c : ℕ) → In n.routers router → In router.route_maps m → In m.entries entry →
    In (changed_by entry.change) c → has (communities_of n) c ≡ true
of_change n router m entry c in_network in_router in_map_m in_change =
    let mention = mention_at entry.change_line c in
    let on_line = in_map (mention_at entry.change_line) (changed_by entry.change) c in_change in
    let in_maps = in_flat_map mentions_in_map router.route_maps m mention in_router (in_flat_map mentions_in m.entries entry mention in_map_m on_line) in
    mentioned n mention (in_flat_map mentions_of n.routers router mention in_network
    (in_right (flat_map mentions_in_list router.community_lists) (flat_map mentions_in_map router.route_maps) mention in_maps))

lists_within : (n : Network) (router : Router) → In n.routers router → AllByRecursion (IsListWithin (communities_of n)) router.community_lists
lists_within n router in_network =
    let set = communities_of n in
    each_contained (IsListWithin set) router.community_lists (λ list in_router.
    each_contained (IsLineWithin set) list.lines (λ line in_list.
    each_contained (λ c. has set c ≡ true) line.comms (λ c in_line.
    of_line n router list line c in_network (in_contains router.community_lists list in_router) (in_contains list.lines line in_list)
    (in_contains line.comms c in_line))))

found_within : (n : Network) (router : Router) (name : List ℕ) → In n.routers router →
    IfSome (community_list_named router name) (IsListWithin (communities_of n))
found_within n router name in_network = found_holds (IsListWithin (communities_of n)) (λ (list : CommunityList). bytes_eq list.name name) router.community_lists
    (lists_within n router in_network)

names_within : (n : Network) (router : Router) (names : List (List ℕ)) → In n.routers router →
    AreListsWithin (communities_of n) (filter_map (community_list_named router) names)
names_within n router [] in_network = tt
names_within n router (name ∷ names) in_network =
    step (community_list_named router name) (found_within n router name in_network) (names_within n router names in_network) where
      step : (o : Option CommunityList) → IfSome o (IsListWithin (communities_of n)) →
          AreListsWithin (communities_of n) (filter_map (community_list_named router) names) →
          AreListsWithin (communities_of n) (cons_option o (filter_map (community_list_named router) names))
      step None found rest = rest
      step (Some list) found rest = (found, rest)

matched_within : (n : Network) (router : Router) (comms : Option NameLine) → In n.routers router →
    IfSome (lists_named router comms) (AreListsWithin (communities_of n))
matched_within n router None in_network = tt
matched_within n router (Some line) in_network = names_within n router line.names in_network

deleted_within : (n : Network) (router : Router) (delete : Option Named) → In n.routers router →
    IfSome (deletion_list router delete) (IsListWithin (communities_of n))
deleted_within n router None in_network = tt
deleted_within n router (Some named) in_network = found_within n router named.name in_network

change_within : (set : List ℕ) (change : Option Change) → AreWithin set (changed_by change) → IfSome change (IsChangeWithin set)
change_within set None within = tt
change_within set (Some Clear) within = tt
change_within set (Some (Replace by)) within = within
change_within set (Some (Append more)) within = within

pub maps_stay_within : (n : Network) (router : Router) → Contains n.routers router → (name list : Option (List ℕ)) (p : Prefix) (inbound : Bool) →
    IsMapWithin (communities_of n) (plain_of router name list p inbound)
maps_stay_within n router contained name list p inbound =
    let set = communities_of n in
    let in_network = in_contains n.routers router contained in
    plain_holds (IsEntryWithin set) router name list p inbound (record { lists = tt; change = tt; delete = tt }) (λ m named entry in_entries. record {
      lists = matched_within n router entry.comms in_network;
      change = change_within set entry.change (each_contained (λ c. has set c ≡ true) (changed_by entry.change) (λ c in_change.
          of_change n router m entry c in_network (in_contains router.route_maps m named.contained) (in_contains m.entries entry in_entries)
          (in_contains (changed_by entry.change) c in_change)));
      delete = deleted_within n router entry.delete in_network;
    })
