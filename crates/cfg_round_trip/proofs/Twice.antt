-- Taking out line numbers twice is the same as taking them out once.
use Rattle.std.proofs.Common.{◌≡◌, List, [], ◌∷◌, map, Option, Some, None, refl, ap}
use Rattle.std.specs.Option.{option_map}
use Rattle.cfg_ast.specs.declared.network.Network.{Network}
use Rattle.cfg_ast.specs.printing.Bare.{bare_named, bare_address, bare_interface, bare_base, bare_net, bare_neighbor, bare_bgp, bare_area, bare_ospf, bare_prefix_entry, bare_prefix_list, bare_community_line, bare_community_list, bare_name_line, bare_prepend, bare_map_entry, bare_route_map, bare_router, bare}

abbrev IsDone : {X : Type 0} → (X → X) → Type 0
IsDone {X} h = (x : X) → h (h x) ≡ h x

twice_option : {X : Type 0} (h : X → X) → ((x : X) → h (h x) ≡ h x) → (o : Option X) → option_map h (option_map h o) ≡ option_map h o
twice_option h done None = refl
twice_option h done (Some x) = ap (λ v. Some v) (done x)

twice_list : {X : Type 0} (h : X → X) → ((x : X) → h (h x) ≡ h x) → (xs : List X) → map h (map h xs) ≡ map h xs
twice_list h done [] = refl
twice_list h done (x ∷ xs) = rw (done x, twice_list h done xs) refl

interface_twice : IsDone bare_interface
interface_twice i = rw (twice_option bare_address (λ a. refl) i.address) refl

neighbor_twice : IsDone bare_neighbor
neighbor_twice p = rw (
  twice_option bare_named (λ a. refl) p.list_in,
  twice_option bare_named (λ a. refl) p.list_out,
  twice_option bare_named (λ a. refl) p.map_in,
  twice_option bare_named (λ a. refl) p.map_out,
) refl

bgp_twice : IsDone bare_bgp
bgp_twice b = rw (twice_option bare_base (λ a. refl) b.base, twice_list bare_net (λ a. refl) b.networks, twice_list bare_neighbor neighbor_twice b.neighbors)
    refl

ospf_twice : IsDone bare_ospf
ospf_twice o = rw (twice_list bare_area (λ a. refl) o.areas) refl

prefix_list_twice : IsDone bare_prefix_list
prefix_list_twice l = rw (twice_list bare_prefix_entry (λ a. refl) l.entries) refl

community_list_twice : IsDone bare_community_list
community_list_twice l = rw (twice_list bare_community_line (λ a. refl) l.lines) refl

map_entry_twice : IsDone bare_map_entry
map_entry_twice e = rw (
  twice_option bare_name_line (λ a. refl) e.prefixes,
  twice_option bare_name_line (λ a. refl) e.comms,
  twice_option bare_named (λ a. refl) e.delete,
  twice_option bare_prepend (λ a. refl) e.prepend,
) refl

route_map_twice : IsDone bare_route_map
route_map_twice m = rw (twice_list bare_map_entry map_entry_twice m.entries) refl

router_twice : IsDone bare_router
router_twice r =
    rw (
      twice_list bare_interface interface_twice r.interfaces,
      twice_option bare_bgp bgp_twice r.bgp,
      twice_option bare_ospf ospf_twice r.ospf,
      twice_list bare_prefix_list prefix_list_twice r.prefix_lists,
      twice_list bare_community_list community_list_twice r.community_lists,
      twice_list bare_route_map route_map_twice r.route_maps,
    ) refl

pub bare_twice : (network : Network) → bare (bare network) ≡ bare network
bare_twice network = rw (twice_list bare_router router_twice network.routers) refl
