-- A network in which a neighbour has `shutdown` has the faults that it had before, at the same lines.
use Rattle.std.proofs.Common.{◌≡◌, ℕ, zero, suc, ◌+◌, Bool, true, false, cond, not, ◌&&◌, ◌||◌, List, [], ◌∷◌, ◌++◌, length, map, Option, Some, None, refl, sym, ◌∙◌, ap}
use Rattle.std.specs.Prelude.{filter, filter_map, flat_map, nat_eq, nat_lt, bytes_eq, slice_get, option_to_list}
use Rattle.std.specs.List.{list_any, list_all, cons_option}
use Rattle.std.specs.Option.{option_map, option_map_or}
use Rattle.cfg_ast.specs.declared.bgp.BgpProcess.{BgpProcess}
use Rattle.cfg_ast.specs.declared.bgp.Neighbor.{Neighbor}
use Rattle.cfg_ast.specs.declared.interface.Interface.{Interface}
use Rattle.cfg_ast.specs.declared.network.Network.{Network}
use Rattle.cfg_ast.specs.declared.network.Router.{Router}
use Rattle.cfg_ast.specs.declared.ospf.AreaLine.{AreaLine}
use Rattle.cfg_ast.specs.declared.policy.MapEntry.{MapEntry}
use Rattle.cfg_ast.specs.declared.policy.Mention.{Mention}
use Rattle.cfg_ast.specs.declared.policy.Prepend.{Prepend}
use Rattle.cfg_ast.specs.declared.policy.RouteMap.{RouteMap}
use Rattle.cfg_ast.specs.meaning.Addresses.{Address}
use Rattle.cfg_ast.specs.meaning.PolicyFaults.{undefined_map_lines, undefined_list_lines, delete_list_lines, too_many_communities_lines, prepend_form_lines, prepend_in_lines, lacks_map, lacks_prefix_list, lacks_community_list, map_lines_naming, list_lines_naming, lines_in_map_naming, line_naming, undefined_maps_of, undefined_lists_of, wide_deletions_of, mentions, mentions_of, first_exceeds, foreign_prepends_of, has_prepending_map, prepending_maps_in_of}
use Rattle.cfg_ast.specs.meaning.RouterFaults.{shared_name_lines, shared_as_lines, internal_peer_lines, mixed_protocol_lines, other_area_lines, shared_address_lines, overlapping_lines, loopback_mask_lines, no_cost_lines, too_many_routers_lines, too_many_neighbors_lines, too_many_links_lines, repeats, repeats_after, unlike_first, first_beyond, address_line, internal_peers, internal_peers_of, ProtocolLine, protocol_lines_of, same_protocol, areas_of, up_addresses_of, overlap, is_wide_loopback, area_addresses_with, active_addresses_of, added_by, added_after, exceeding, Added}
use Rattle.cfg_ast.specs.meaning.Topology.{has_number, neighbors_of, cost_of_interface}
use Rattle.std.specs.Prelude.{is_some}
use Rattle.cfg_check.specs.Faultless.{IsFaultless}
use Rattle.shutdown_laws.specs.Shutdown.{changed_at, shut_line, shut_in, shut_on, with_shutdown}
use Rattle.shutdown_laws.proofs.ChangedLists.{map_changed, flat_map_changed, filter_map_of}
use Rattle.shutdown_laws.proofs.ShutRouters.{same_number, same_lines, neighbors_shut}

-- ---- lists

any_of_map : {X K : Type 0} (h : X → K) (p : K → Bool) (xs : List X) → list_any (λ x. p (h x)) xs ≡ list_any p (map h xs)
any_of_map h p [] = refl
any_of_map h p (x ∷ xs) = let rest = any_of_map h p xs in λ t. p (h x) || rest t

-- what repeats is told by a part of each item
map_repeats : {X K : Type 0} (h : X → K) (same : K → K → Bool) (past xs : List X) →
    map h (repeats_after (λ x y. same (h x) (h y)) past xs) ≡ repeats_after same (map h past) (map h xs)
map_repeats h same past [] = refl
map_repeats {X} {K} h same past (x ∷ xs) =
    by (list_any (λ y. same (h x) (h y)) past) (list_any (same (h x)) (map h past)) (any_of_map h (same (h x)) past) (map_repeats h same (x ∷ past) xs)
  where
    by : (a b : Bool) → a ≡ b → map h (repeats_after (λ y z. same (h y) (h z)) (x ∷ past) xs) ≡ repeats_after same (h x ∷ map h past) (map h xs) →
        map h (cond a (x ∷ repeats_after (λ y z. same (h y) (h z)) (x ∷ past) xs) (repeats_after (λ y z. same (h y) (h z)) (x ∷ past) xs))
        ≡ cond b (h x ∷ repeats_after same (h x ∷ map h past) (map h xs)) (repeats_after same (h x ∷ map h past) (map h xs))
    by true true e rest = ap (λ ys. h x ∷ ys) rest
    by true false e rest = absurd (cc)
    by false true e rest = absurd (cc)
    by false false e rest = rest

map_of_map : {X Y Z : Type 0} (g : Y → Z) (h : X → Y) (xs : List X) → map g (map h xs) ≡ map (λ x. g (h x)) xs
map_of_map g h [] = refl
map_of_map g h (x ∷ xs) = ap (λ rest. g (h x) ∷ rest) (map_of_map g h xs)

map_append : {X Y : Type 0} (g : X → Y) (xs ys : List X) → map g (xs ++ ys) ≡ map g xs ++ map g ys
map_append g [] ys = refl
map_append g (x ∷ xs) ys = ap (λ rest. g x ∷ rest) (map_append g xs ys)

map_of_flat_map : {X Y Z : Type 0} (g : Y → Z) (f : X → List Y) (xs : List X) → map g (flat_map f xs) ≡ flat_map (λ x. map g (f x)) xs
map_of_flat_map g f [] = refl
map_of_flat_map g f (x ∷ xs) = map_append g (f x) (flat_map f xs) ∙ ap (λ rest. map g (f x) ++ rest) (map_of_flat_map g f xs)

map_cons_option : {X Y : Type 0} (g : X → Y) (o : Option X) (xs : List X) → map g (cons_option o xs) ≡ cons_option (option_map g o) (map g xs)
map_cons_option g None xs = refl
map_cons_option g (Some x) xs = refl

map_of_filter_map : {X Y Z : Type 0} (g : Y → Z) (f : X → Option Y) (xs : List X) → map g (filter_map f xs) ≡ filter_map (λ x. option_map g (f x)) xs
map_of_filter_map g f [] = refl
map_of_filter_map g f (x ∷ xs) = map_cons_option g (f x) (filter_map f xs) ∙ ap (cons_option (option_map g (f x))) (map_of_filter_map g f xs)

filter_map_changed : {X Y : Type 0} (g : X → Option Y) (f : X → X) → ((x : X) → g (f x) ≡ g x) → (k : ℕ) (xs : List X) →
    filter_map g (changed_at f k xs) ≡ filter_map g xs
filter_map_changed g f same k [] = refl
filter_map_changed g f same zero (x ∷ xs) = ap (λ o. cons_option o (filter_map g xs)) (same x)
filter_map_changed g f same (suc k) (x ∷ xs) = ap (cons_option (g x)) (filter_map_changed g f same k xs)

map_one : {X Y : Type 0} (g : X → Y) (o : Option X) → map g (option_to_list o) ≡ option_to_list (option_map g o)
map_one g None = refl
map_one g (Some x) = refl

get_of_map : {X Y : Type 0} (g : X → Y) (xs : List X) (k : ℕ) → option_map g (slice_get xs k) ≡ slice_get (map g xs) k
get_of_map g [] k = refl
get_of_map g (x ∷ xs) zero = refl
get_of_map g (x ∷ xs) (suc k) = get_of_map g xs k

map_beyond : {X Y : Type 0} (g : X → Y) (limit : ℕ) (xs : List X) → map g (first_beyond limit xs) ≡ first_beyond limit (map g xs)
map_beyond g limit xs = map_one g (slice_get xs limit) ∙ ap option_to_list (get_of_map g xs limit)

-- lines of the items that pass a test, where one item is changed to one that passes if it did
filter_changed : {X Y : Type 0} (p : X → Bool) (g : X → Y) (f : X → X) → ((x : X) → p (f x) ≡ p x) → ((x : X) → g (f x) ≡ g x) → (k : ℕ) (xs : List X) →
    map g (filter p (changed_at f k xs)) ≡ map g (filter p xs)
filter_changed p g f passes same k [] = refl
filter_changed {X} {Y} p g f passes same zero (x ∷ xs) = by (p (f x)) (p x) (passes x)
  where
    by : (a b : Bool) → a ≡ b → map g (cond a (f x ∷ filter p xs) (filter p xs)) ≡ map g (cond b (x ∷ filter p xs) (filter p xs))
    by true true e = ap (λ y. y ∷ map g (filter p xs)) (same x)
    by true false e = absurd (cc)
    by false true e = absurd (cc)
    by false false e = refl
filter_changed {X} {Y} p g f passes same (suc k) (x ∷ xs) = by (p x) (filter_changed p g f passes same k xs)
  where
    by : (b : Bool) → map g (filter p (changed_at f k xs)) ≡ map g (filter p xs) →
        map g (cond b (x ∷ filter p (changed_at f k xs)) (filter p (changed_at f k xs))) ≡ map g (cond b (x ∷ filter p xs) (filter p xs))
    by true rest = ap (λ ys. g x ∷ ys) rest
    by false rest = rest

-- ---- routers

-- a line, and by what it repeats an earlier one
record Named : Type 0 where
  line : ℕ
  name : List ℕ

record Numbered : Type 0 where
  line : ℕ
  number : ℕ

abbrev named : Router → Named
named router = record { line = router.line; name = router.name }

abbrev numbered : BgpProcess → Numbered
numbered process = record { line = process.line; number = process.number }

numbered_shut : (i : ℕ) (o : Option BgpProcess) → option_map numbered (option_map (shut_in i) o) ≡ option_map numbered o
numbered_shut i None = refl
numbered_shut i (Some process) = refl

abbrev neighbor_line : Neighbor → ℕ
neighbor_line neighbor = neighbor.line

-- the lines of its internal peers
peers_shut : (i : ℕ) (o : Option BgpProcess) → map neighbor_line (option_map_or internal_peers (option_map (shut_in i) o) [])
    ≡ map neighbor_line (option_map_or internal_peers o [])
peers_shut i None = refl
peers_shut i (Some process) = filter_changed (λ (neighbor : Neighbor). nat_eq neighbor.remote process.number) neighbor_line shut_line (λ neighbor. refl)
    (λ neighbor. refl) i process.neighbors

module _ (n : Network) (r i : ℕ) where
  abbrev m : Network
  m = with_shutdown n r i

  -- what is told of a router, router by router
  of_each : {Y : Type 0} (g : Router → List Y) → ((router : Router) → g (shut_on i router) ≡ g router) → flat_map g m.routers ≡ flat_map g n.routers
  of_each g same = flat_map_changed g (shut_on i) same r n.routers

  -- what is told of its neighbours, one by one
  of_neighbors : {Y : Type 0} (g : Neighbor → List Y) → ((neighbor : Neighbor) → g (shut_line neighbor) ≡ g neighbor) → (router : Router) →
      flat_map g (neighbors_of (shut_on i router)) ≡ flat_map g (neighbors_of router)
  of_neighbors g same router = ap (flat_map g) (neighbors_shut i router) ∙ flat_map_changed g shut_line same i (neighbors_of router)

  names_same : shared_name_lines m ≡ shared_name_lines n
  unfolding shared_name_lines
  names_same =
      let alike = λ (x y : Named). bytes_eq x.name y.name in
      sym (map_of_map (λ (x : Named). x.line) named (repeats (λ (x y : Router). bytes_eq x.name y.name) m.routers))
      ∙ ap (map (λ (x : Named). x.line)) (map_repeats named alike [] m.routers
      ∙ ap (repeats_after alike []) (map_changed named (shut_on i) (λ router. refl) r n.routers)
      ∙ sym (map_repeats named alike [] n.routers))
      ∙ map_of_map (λ (x : Named). x.line) named (repeats (λ (x y : Router). bytes_eq x.name y.name) n.routers)

  numbers_same : shared_as_lines m ≡ shared_as_lines n
  unfolding shared_as_lines
  numbers_same =
      let alike = λ (x y : Numbered). nat_eq x.number y.number in
      let before = filter_map (λ (router : Router). router.bgp) n.routers in
      let after = filter_map (λ (router : Router). router.bgp) m.routers in
      let same : map numbered after ≡ map numbered before =
      map_of_filter_map numbered (λ (router : Router). router.bgp) m.routers
      ∙ filter_map_changed (λ (router : Router). option_map numbered router.bgp) (shut_on i) (λ router. numbered_shut i router.bgp) r n.routers
      ∙ sym (map_of_filter_map numbered (λ (router : Router). router.bgp) n.routers) in
      sym (map_of_map (λ (x : Numbered). x.line) numbered (repeats (λ (x y : BgpProcess). nat_eq x.number y.number) after))
      ∙ ap (map (λ (x : Numbered). x.line)) (map_repeats numbered alike [] after ∙ ap (repeats_after alike []) same
      ∙ sym (map_repeats numbered alike [] before))
      ∙ map_of_map (λ (x : Numbered). x.line) numbered (repeats (λ (x y : BgpProcess). nat_eq x.number y.number) before)

  peers_same : internal_peer_lines m ≡ internal_peer_lines n
  unfolding internal_peer_lines
  peers_same = map_of_flat_map neighbor_line internal_peers_of m.routers
      ∙ of_each (λ router. map neighbor_line (internal_peers_of router)) (λ router. peers_shut i router.bgp)
      ∙ sym (map_of_flat_map neighbor_line internal_peers_of n.routers)

  protocols_same : mixed_protocol_lines m ≡ mixed_protocol_lines n
  unfolding mixed_protocol_lines
  protocols_same = ap (λ ls. map (λ (l : ProtocolLine). l.line) (unlike_first same_protocol ls)) (of_each protocol_lines_of (same_lines i))

  areas_same : other_area_lines m ≡ other_area_lines n
  unfolding other_area_lines
  areas_same = ap (λ ls. map (λ (l : AreaLine). l.line) (unlike_first (λ (x y : AreaLine). nat_eq x.area y.area) ls)) (of_each areas_of (λ router. refl))

  maps_same : undefined_map_lines m ≡ undefined_map_lines n
  unfolding undefined_map_lines
  maps_same = of_each undefined_maps_of (λ router. of_neighbors (map_lines_naming (lacks_map router)) (λ neighbor. refl) router)

  lists_same : undefined_list_lines m ≡ undefined_list_lines n
  unfolding undefined_list_lines
  lists_same = of_each undefined_lists_of (λ router.
      ap (λ ls. ls ++ flat_map (lines_in_map_naming (lacks_prefix_list router) (lacks_community_list router)) router.route_maps)
      (of_neighbors (list_lines_naming (lacks_prefix_list router)) (λ neighbor. refl) router))

  deletions_same : delete_list_lines m ≡ delete_list_lines n
  unfolding delete_list_lines
  deletions_same = of_each wide_deletions_of (λ router. refl)

  addresses_same : shared_address_lines m ≡ shared_address_lines n
  unfolding shared_address_lines
  addresses_same = ap (λ all. map address_line (repeats (λ (x y : Address). nat_eq x.addr y.addr) all)) (of_each up_addresses_of (λ router. refl))

  overlaps_same : overlapping_lines m ≡ overlapping_lines n
  unfolding overlapping_lines
  overlaps_same = ap (map address_line) (of_each (λ router. repeats overlap (up_addresses_of router)) (λ router. refl))

  masks_same : loopback_mask_lines m ≡ loopback_mask_lines n
  unfolding loopback_mask_lines
  masks_same = ap (map address_line) (of_each (area_addresses_with is_wide_loopback) (λ router. refl))

  costs_same : no_cost_lines m ≡ no_cost_lines n
  unfolding no_cost_lines
  costs_same = ap (map address_line) (of_each (area_addresses_with (λ (x : Interface). not (is_some (cost_of_interface x)))) (λ router. refl))

  routers_same : too_many_routers_lines m ≡ too_many_routers_lines n
  unfolding too_many_routers_lines
  routers_same =
      let line = λ (router : Router). router.line in
      map_beyond line 4096 m.routers ∙ ap (first_beyond 4096) (map_changed line (shut_on i) (λ router. refl) r n.routers) ∙ sym (map_beyond line 4096 n.routers)

  communities_same : too_many_communities_lines m ≡ too_many_communities_lines n
  unfolding too_many_communities_lines
  communities_same = ap (λ ms. filter (first_exceeds 1024 ms) (map (λ (mention : Mention). mention.line) ms)) (of_each mentions_of (λ router. refl))

  neighbors_same : too_many_neighbors_lines m ≡ too_many_neighbors_lines n
  unfolding too_many_neighbors_lines
  neighbors_same =
      let one = λ (router : Router). map neighbor_line (neighbors_of router) in
      let same : map neighbor_line (flat_map neighbors_of m.routers) ≡ map neighbor_line (flat_map neighbors_of n.routers) =
      map_of_flat_map neighbor_line neighbors_of m.routers
      ∙ of_each one (λ router. ap (map neighbor_line) (neighbors_shut i router)
      ∙ map_changed neighbor_line shut_line (λ neighbor. refl) i (neighbors_of router))
      ∙ sym (map_of_flat_map neighbor_line neighbors_of n.routers) in
      map_beyond neighbor_line 131072 (flat_map neighbors_of m.routers) ∙ ap (first_beyond 131072) same
      ∙ sym (map_beyond neighbor_line 131072 (flat_map neighbors_of n.routers))

  added_same : (earlier : List Address) (k : ℕ) (routers : List Router) → added_after earlier (changed_at (shut_on i) k routers) ≡ added_after earlier routers
  added_same earlier k [] = refl
  added_same earlier zero (router ∷ routers) = refl
  added_same earlier (suc k) (router ∷ routers) = ap (λ rest. map (added_by earlier) (active_addresses_of router) ++ rest)
      (added_same (earlier ++ active_addresses_of router) k routers)

  links_same : too_many_links_lines m ≡ too_many_links_lines n
  unfolding too_many_links_lines
  links_same = ap (exceeding 1048576 0) (added_same [] r n.routers)

  prepends_same : prepend_form_lines m ≡ prepend_form_lines n
  unfolding prepend_form_lines
  prepends_same = of_each foreign_prepends_of (λ router.
      let number : (k : ℕ) → has_number (shut_on i router) k ≡ has_number router k = λ k. same_number i k router in
      λ t. flat_map (λ (policy : RouteMap). flat_map (λ (entry : MapEntry).
      option_map_or (λ (p : Prepend). cond (list_all (λ k. number k t) p.numbers) [] (p.line ∷ [])) entry.prepend []) policy.entries) router.route_maps)

  prepends_in_same : prepend_in_lines m ≡ prepend_in_lines n
  unfolding prepend_in_lines
  prepends_in_same = of_each prepending_maps_in_of (λ router.
      of_neighbors (λ (neighbor : Neighbor). line_naming (has_prepending_map router) neighbor.map_in) (λ neighbor. refl) router)

  pub faultless_after : IsFaultless n → IsFaultless m
  faultless_after none = record {
    shared_name = names_same ∙ none.shared_name;
    shared_as = numbers_same ∙ none.shared_as;
    internal_peer = peers_same ∙ none.internal_peer;
    mixed_protocols = protocols_same ∙ none.mixed_protocols;
    other_area = areas_same ∙ none.other_area;
    undefined_map = maps_same ∙ none.undefined_map;
    undefined_list = lists_same ∙ none.undefined_list;
    delete_list = deletions_same ∙ none.delete_list;
    shared_address = addresses_same ∙ none.shared_address;
    overlapping = overlaps_same ∙ none.overlapping;
    loopback_mask = masks_same ∙ none.loopback_mask;
    no_cost = costs_same ∙ none.no_cost;
    too_many_routers = routers_same ∙ none.too_many_routers;
    too_many_communities = communities_same ∙ none.too_many_communities;
    too_many_neighbors = neighbors_same ∙ none.too_many_neighbors;
    too_many_links = links_same ∙ none.too_many_links;
    prepend_form = prepends_same ∙ none.prepend_form;
    prepend_in = prepends_in_same ∙ none.prepend_in;
  }
