-- How many router lines have a fault does not depend on line numbers: in the network without line
-- numbers each of these faults is at line 0.
use Rattle.std.proofs.Common.{◌≡◌, ℕ, ◌+◌, Bool, true, false, cond, ◌&&◌, List, [], ◌∷◌, ◌++◌, Option, Some, None, map, filter, length, refl, sym, ap, ◌∙◌}
use Rattle.std.specs.Prelude.{filter_map, flat_map, nat_eq, nat_lt}
use Rattle.std.specs.Option.{option_map, option_map_or}
use Rattle.std.proofs.lemmas.List.{length-map, map-append}
use Rattle.cfg_ast.specs.meaning.Addresses.{Address}
use Rattle.cfg_ast.specs.declared.bgp.BgpProcess.{BgpProcess}
use Rattle.cfg_ast.specs.declared.bgp.Neighbor.{Neighbor}
use Rattle.cfg_ast.specs.declared.interface.Interface.{Interface}
use Rattle.cfg_ast.specs.declared.network.Network.{Network}
use Rattle.cfg_ast.specs.declared.network.Router.{Router}
use Rattle.cfg_ast.specs.declared.ospf.AreaLine.{AreaLine}
use Rattle.cfg_ast.specs.declared.ospf.OspfProcess.{OspfProcess}
use Rattle.cfg_ast.specs.meaning.RouterFaults.{repeats, unlike_first, first_beyond, address_line, shared_name_lines, shared_as_lines, internal_peers, internal_peers_of, internal_peer_lines, areas_of, area_lines, other_area_lines, up_addresses_of, shared_address_lines, overlap, overlapping_lines, is_wide_loopback, area_addresses_with, loopback_mask_lines, no_cost_lines, too_many_routers_lines, too_many_neighbors_lines, active_addresses_of, Added, added_by, added_after, exceeding, too_many_links_lines}
use Rattle.cfg_check.specs.Items.{router_line, process_line, neighbor_line, area_line, same_name, bgp_of, same_number, same_area, same_address, overlapping_in, area_address_with, has_no_cost, active_address_on}
use Rattle.cfg_ast.specs.meaning.Topology.{up_address, is_in_area_interface, is_active_interface, same_subnet, neighbors_of}
use Rattle.cfg_ast.specs.printing.Bare.{bare_address, bare_area, bare_bgp, bare_interface, bare_neighbor, bare_ospf, bare_router, bare}
use Rattle.line_number_laws.proofs.Interfaces.{up_address_bare, up_addresses_bare, in_area_bare, active_bare, neighbors_bare}
use Rattle.line_number_laws.proofs.Mapped.{filter_mapped, filter_map_mapped, flat_mapped, repeats_mapped, unlike_mapped, beyond_mapped}

-- No items.

pub no_items : {X Y : Type 0} (f : X → Y) (xs : List X) → map f xs ≡ [] → xs ≡ []
no_items f [] none = refl
no_items f (x ∷ xs) none = absurd cc

-- The lines, each put to 0.

abbrev pub at_zero : List ℕ → List ℕ
at_zero lines = map (λ line. 0) lines

-- the lines of items without numbers
lines_of : {X : Type 0} (h : X → X) (line : X → ℕ) → ((x : X) → line (h x) ≡ 0) → (xs : List X) → map line (map h xs) ≡ at_zero (map line xs)
lines_of h line zero [] = refl
lines_of h line zero (x ∷ xs) = rw (zero x, lines_of h line zero xs) refl

-- the lines of repeated items, of items unlike the first, and of the item beyond a limit
repeated : {X : Type 0} (h : X → X) (line : X → ℕ) → ((x : X) → line (h x) ≡ 0) → (alike : X → X → Bool) → ((x y : X) → alike (h x) (h y) ≡ alike x y) →
    (xs : List X) → map line (repeats alike (map h xs)) ≡ at_zero (map line (repeats alike xs))
repeated h line zero alike same xs = ap (map line) (repeats_mapped h alike alike same xs) ∙ lines_of h line zero (repeats alike xs)

unlike : {X : Type 0} (h : X → X) (line : X → ℕ) → ((x : X) → line (h x) ≡ 0) → (alike : X → X → Bool) → ((x y : X) → alike (h x) (h y) ≡ alike x y) →
    (xs : List X) → map line (unlike_first alike (map h xs)) ≡ at_zero (map line (unlike_first alike xs))
unlike h line zero alike same xs = ap (map line) (unlike_mapped h alike alike same xs) ∙ lines_of h line zero (unlike_first alike xs)

beyond : {X : Type 0} (h : X → X) (line : X → ℕ) → ((x : X) → line (h x) ≡ 0) → (limit : ℕ) (xs : List X) →
    map line (first_beyond limit (map h xs)) ≡ at_zero (map line (first_beyond limit xs))
beyond h line zero limit xs = ap (map line) (beyond_mapped h limit xs) ∙ lines_of h line zero (first_beyond limit xs)

-- Names and numbers.

pub shared_name_bare : (n : Network) → shared_name_lines (bare n) ≡ at_zero (shared_name_lines n)
unfolding shared_name_lines
shared_name_bare n = repeated bare_router router_line (λ r. refl) same_name (λ r s. refl) n.routers

pub shared_as_bare : (n : Network) → shared_as_lines (bare n) ≡ at_zero (shared_as_lines n)
unfolding shared_as_lines
shared_as_bare n =
    ap (λ (bs : List BgpProcess). map process_line (repeats same_number bs)) (filter_map_mapped bare_router bare_bgp bgp_of bgp_of (λ r. refl) n.routers)
    ∙ repeated bare_bgp process_line (λ b. refl) same_number (λ b c. refl) (filter_map (λ (r : Router). r.bgp) n.routers)

internal_bare : (r : Router) → internal_peers_of (bare_router r) ≡ map bare_neighbor (internal_peers_of r)
internal_bare r = step r.bgp where
  step : (o : Option BgpProcess) → option_map_or internal_peers (option_map bare_bgp o) [] ≡ map bare_neighbor (option_map_or internal_peers o [])
  step None = refl
  step (Some process) = filter_mapped bare_neighbor (λ (q : Neighbor). nat_eq q.remote process.number) (λ (q : Neighbor). nat_eq q.remote process.number)
      (λ q. refl) process.neighbors

pub internal_peer_bare : (n : Network) → internal_peer_lines (bare n) ≡ at_zero (internal_peer_lines n)
unfolding internal_peer_lines
internal_peer_bare n =
    ap (map neighbor_line) (flat_mapped bare_router bare_neighbor internal_peers_of internal_peers_of internal_bare n.routers)
    ∙ lines_of bare_neighbor neighbor_line (λ q. refl) (flat_map internal_peers_of n.routers)

abbrev areas : Option OspfProcess → List AreaLine
areas o = option_map_or (λ (process : OspfProcess). process.areas) o []

areas_bare : (r : Router) → areas_of (bare_router r) ≡ map bare_area (areas_of r)
areas_bare r = step r.ospf where
  step : (o : Option OspfProcess) → areas (option_map bare_ospf o) ≡ map bare_area (areas o)
  step None = refl
  step (Some process) = refl

pub other_area_bare : (n : Network) → other_area_lines (bare n) ≡ at_zero (other_area_lines n)
unfolding other_area_lines
other_area_bare n =
    ap (λ (ls : List AreaLine). map area_line (unlike_first same_area ls)) (flat_mapped bare_router bare_area areas_of areas_of areas_bare n.routers)
    ∙ unlike bare_area area_line (λ l. refl) same_area (λ l m. refl) (area_lines n)

-- Addresses.

up_bare : (r : Router) → up_addresses_of (bare_router r) ≡ map bare_address (up_addresses_of r)
up_bare r = up_addresses_bare r.interfaces

pub shared_address_bare : (n : Network) → shared_address_lines (bare n) ≡ at_zero (shared_address_lines n)
unfolding shared_address_lines
shared_address_bare n =
    ap (λ (found : List Address). map address_line (repeats same_address found))
    (flat_mapped bare_router bare_address up_addresses_of up_addresses_of up_bare n.routers)
    ∙ repeated bare_address address_line (λ a. refl) same_address (λ a b. refl) (flat_map up_addresses_of n.routers)

pub overlapping_bare : (n : Network) → overlapping_lines (bare n) ≡ at_zero (overlapping_lines n)
unfolding overlapping_lines
overlapping_bare n =
    ap (map address_line)
    (flat_mapped bare_router bare_address overlapping_in overlapping_in
    (λ r. ap (repeats overlap) (up_bare r) ∙ repeats_mapped bare_address overlap overlap (λ a b. refl) (up_addresses_of r)) n.routers)
    ∙ lines_of bare_address address_line (λ a. refl) (flat_map overlapping_in n.routers)

-- Interfaces in the area.

with_bare : (has_fault : Interface → Bool) → ((x : Interface) → has_fault (bare_interface x) ≡ has_fault x) → (r : Router) (x : Interface) →
    area_address_with has_fault (bare_router r) (bare_interface x) ≡ option_map bare_address (area_address_with has_fault r x)
with_bare has_fault same r x = rw (in_area_bare r x, same x, up_address_bare x) (step (is_in_area_interface r x && has_fault x)) where
  step : (b : Bool) → cond b (option_map bare_address (up_address x)) None ≡ option_map bare_address (cond b (up_address x) None)
  step true = refl
  step false = refl

area_faults_bare : (has_fault : Interface → Bool) → ((x : Interface) → has_fault (bare_interface x) ≡ has_fault x) → (n : Network)
    → map address_line (flat_map (area_addresses_with has_fault) (map bare_router n.routers)) ≡ at_zero
    (map address_line (flat_map (area_addresses_with has_fault) n.routers))
area_faults_bare has_fault same n =
    ap (map address_line)
    (flat_mapped bare_router bare_address (area_addresses_with has_fault) (area_addresses_with has_fault)
    (λ r. filter_map_mapped bare_interface bare_address (area_address_with has_fault (bare_router r)) (area_address_with has_fault r)
    (with_bare has_fault same r) r.interfaces) n.routers)
    ∙ lines_of bare_address address_line (λ a. refl) (flat_map (area_addresses_with has_fault) n.routers)

abbrev has_host_mask : Option Address → Bool
has_host_mask o = option_map_or (λ (a : Address). nat_eq a.len 32) o false

mask_bare : (o : Option Address) → has_host_mask (option_map bare_address o) ≡ has_host_mask o
mask_bare None = refl
mask_bare (Some a) = refl

pub loopback_mask_bare : (n : Network) → loopback_mask_lines (bare n) ≡ at_zero (loopback_mask_lines n)
unfolding loopback_mask_lines
loopback_mask_bare n = area_faults_bare is_wide_loopback (λ x. rw (mask_bare x.address) refl) n

pub no_cost_bare : (n : Network) → no_cost_lines (bare n) ≡ at_zero (no_cost_lines n)
unfolding no_cost_lines
no_cost_bare n = area_faults_bare has_no_cost (λ x. refl) n

-- Counts.

pub too_many_routers_bare : (n : Network) → too_many_routers_lines (bare n) ≡ at_zero (too_many_routers_lines n)
unfolding too_many_routers_lines
too_many_routers_bare n = beyond bare_router router_line (λ r. refl) 4096 n.routers

pub too_many_neighbors_bare : (n : Network) → too_many_neighbors_lines (bare n) ≡ at_zero (too_many_neighbors_lines n)
unfolding too_many_neighbors_lines
too_many_neighbors_bare n =
    ap (λ (qs : List Neighbor). map neighbor_line (first_beyond 131072 qs))
    (flat_mapped bare_router bare_neighbor neighbors_of neighbors_of neighbors_bare n.routers)
    ∙ beyond bare_neighbor neighbor_line (λ q. refl) 131072 (flat_map neighbors_of n.routers)

abbrev bare_added : Added → Added
bare_added a = record { line = 0; pairs = a.pairs }

active_on_bare : (r : Router) (x : Interface) → active_address_on (bare_router r) (bare_interface x) ≡ option_map bare_address (active_address_on r x)
active_on_bare r x = rw (active_bare r x, up_address_bare x) (step (is_active_interface r x)) where
  step : (b : Bool) → cond b (option_map bare_address (up_address x)) None ≡ option_map bare_address (cond b (up_address x) None)
  step true = refl
  step false = refl

actives_bare : (r : Router) → active_addresses_of (bare_router r) ≡ map bare_address (active_addresses_of r)
actives_bare r = filter_map_mapped bare_interface bare_address (active_address_on (bare_router r)) (active_address_on r) (active_on_bare r) r.interfaces

added_by_bare : (earlier : List Address) (a : Address) → added_by (map bare_address earlier) (bare_address a) ≡ bare_added (added_by earlier a)
added_by_bare earlier a =
    ap (λ (count : ℕ). let added : Added = record { line = 0; pairs = count } in added)
    (ap length (filter_mapped bare_address (same_subnet (bare_address a)) (same_subnet a) (λ b. refl) earlier)
    ∙ length-map (filter (same_subnet a) earlier) bare_address)

all_added_bare : (earlier xs : List Address) → map (added_by (map bare_address earlier)) (map bare_address xs) ≡ map bare_added (map (added_by earlier) xs)
all_added_bare earlier [] = refl
all_added_bare earlier (x ∷ xs) = rw (added_by_bare earlier x, all_added_bare earlier xs) refl

added_after_bare : (earlier : List Address) (routers : List Router) →
    added_after (map bare_address earlier) (map bare_router routers) ≡ map bare_added (added_after earlier routers)
added_after_bare earlier [] = refl
added_after_bare earlier (r ∷ routers) =
    ap (λ (found : List Address). map (added_by (map bare_address earlier)) found ++ added_after (map bare_address earlier ++ found) (map bare_router routers))
    (actives_bare r)
    ∙ ap (λ (more : List Added). more ++ added_after (map bare_address earlier ++ map bare_address (active_addresses_of r)) (map bare_router routers))
    (all_added_bare earlier (active_addresses_of r))
    ∙ ap (λ (found : List Address). map bare_added (map (added_by earlier) (active_addresses_of r)) ++ added_after found (map bare_router routers))
    (sym (map-append bare_address earlier (active_addresses_of r)))
    ∙ ap (λ (more : List Added). map bare_added (map (added_by earlier) (active_addresses_of r)) ++ more)
    (added_after_bare (earlier ++ active_addresses_of r) routers)
    ∙ sym (map-append bare_added (map (added_by earlier) (active_addresses_of r)) (added_after (earlier ++ active_addresses_of r) routers))

exceeding_bare : (limit sum : ℕ) (more : List Added) → exceeding limit sum (map bare_added more) ≡ at_zero (exceeding limit sum more)
exceeding_bare limit sum [] = refl
exceeding_bare limit sum (a ∷ more) = rw (exceeding_bare limit (sum + a.pairs) more) (step (nat_lt limit (sum + a.pairs))) where
  step : (b : Bool) → cond b (0 ∷ []) (at_zero (exceeding limit (sum + a.pairs) more)) ≡ at_zero (cond b (a.line ∷ []) (exceeding limit (sum + a.pairs) more))
  step true = refl
  step false = refl

pub too_many_links_bare : (n : Network) → too_many_links_lines (bare n) ≡ at_zero (too_many_links_lines n)
unfolding too_many_links_lines
too_many_links_bare n = ap (exceeding 1048576 0) (added_after_bare [] n.routers) ∙ exceeding_bare 1048576 0 (added_after [] n.routers)
