-- Interfaces, subnets, the area and initial routes do not depend on line numbers.
use Rattle.std.proofs.Common.{◌≡◌, ℕ, Bool, true, false, cond, ◌&&◌, List, [], Option, Some, None, map, filter, refl, ap, ◌∙◌}
use Rattle.std.specs.Prelude.{filter_map, nat_eq, option_and_then, slice_get}
use Rattle.std.specs.Option.{option_map, option_map_or}
use Rattle.std.specs.List.{list_any}
use Rattle.std.proofs.lemmas.Option.{slice_get-map}
use Rattle.base_kit.specs.Prefixes.{Prefix, same_prefix}
use Rattle.cfg_ast.specs.meaning.Addresses.{Address}
use Rattle.cfg_ast.specs.declared.bgp.Base.{Base}
use Rattle.cfg_ast.specs.declared.bgp.BgpProcess.{BgpProcess}
use Rattle.cfg_ast.specs.declared.bgp.NetLine.{NetLine}
use Rattle.cfg_ast.specs.declared.interface.Interface.{Interface}
use Rattle.cfg_ast.specs.declared.network.Router.{Router}
use Rattle.cfg_ast.specs.declared.ospf.AreaLine.{AreaLine}
use Rattle.cfg_ast.specs.declared.ospf.OspfProcess.{OspfProcess}
use Rattle.cfg_ast.specs.meaning.Classes.{is_up_in, is_announced, area_interface_in, route_by_process, initial_route}
use Rattle.cfg_ast.specs.meaning.Policy.{default_preference}
use Rattle.cfg_ast.specs.meaning.Topology.{up_address, subnet_of_address, line_has_address, process_has_address, is_in_area_interface, is_passive_in, is_active_interface, cost_of_interface, cost_of, neighbors_of, has_number, up_addresses_at, same_subnet, share_subnet}
use Rattle.cfg_ast.specs.printing.Bare.{bare_address, bare_interface, bare_bgp, bare_area, bare_ospf, bare_base, bare_net, bare_neighbor, bare_router}
use Rattle.srp_core.specs.declared.route.Route.TheVariants.{Bgp}
use Rattle.srp_core.specs.ProblemOf.{as_number_of, route_from, start_route}
use Rattle.line_number_laws.proofs.Mapped.{any_mapped, filter_mapped, filter_map_mapped, find_mapped}

-- Interfaces.

pub up_address_bare : (x : Interface) → up_address (bare_interface x) ≡ option_map bare_address (up_address x)
up_address_bare x = step x.shut where
  step : (b : Bool) → cond b None (option_map bare_address x.address) ≡ option_map bare_address (cond b None x.address)
  step true = refl
  step false = refl

process_has_bare : (o : Option OspfProcess) (a : Address) → process_has_address (option_map bare_ospf o) (bare_address a) ≡ process_has_address o a
process_has_bare None a = refl
process_has_bare (Some process) a = any_mapped bare_area (λ (line : AreaLine). line_has_address line a.addr) (λ (line : AreaLine). line_has_address line a.addr)
    (λ line. refl) process.areas

pub in_area_bare : (r : Router) (x : Interface) → is_in_area_interface (bare_router r) (bare_interface x) ≡ is_in_area_interface r x
in_area_bare r x = ap (λ (o : Option Address). option_map_or (process_has_address (option_map bare_ospf r.ospf)) o false) (up_address_bare x)
    ∙ step (up_address x) where
      step : (o : Option Address) → option_map_or (process_has_address (option_map bare_ospf r.ospf)) (option_map bare_address o) false ≡ option_map_or
          (process_has_address r.ospf) o false
      step None = refl
      step (Some a) = process_has_bare r.ospf a

passive_bare : (o : Option OspfProcess) (name : List ℕ) → is_passive_in (option_map bare_ospf o) name ≡ is_passive_in o name
passive_bare None name = refl
passive_bare (Some process) name = refl

pub active_bare : (r : Router) (x : Interface) → is_active_interface (bare_router r) (bare_interface x) ≡ is_active_interface r x
active_bare r x = rw (in_area_bare r x, passive_bare r.ospf x.name) refl

pub cost_bare : (r : Router) (i : ℕ) → cost_of (bare_router r) i ≡ cost_of r i
cost_bare r i = ap (option_and_then cost_of_interface) (slice_get-map bare_interface r.interfaces i) ∙ step (slice_get r.interfaces i) where
  step : (o : Option Interface) → option_and_then cost_of_interface (option_map bare_interface o) ≡ option_and_then cost_of_interface o
  step None = refl
  step (Some x) = refl

-- Addresses and numbers.

pub neighbors_bare : (r : Router) → neighbors_of (bare_router r) ≡ map bare_neighbor (neighbors_of r)
neighbors_bare r = step r.bgp where
  step : (o : Option BgpProcess) → option_map_or (λ (process : BgpProcess). process.neighbors) (option_map bare_bgp o) [] ≡ map bare_neighbor
      (option_map_or (λ (process : BgpProcess). process.neighbors) o [])
  step None = refl
  step (Some process) = refl

pub number_bare : (r : Router) (number : ℕ) → has_number (bare_router r) number ≡ has_number r number
number_bare r number = step r.bgp where
  step : (o : Option BgpProcess) → option_map_or (λ (process : BgpProcess). nat_eq process.number number) (option_map bare_bgp o) false ≡ option_map_or
      (λ (process : BgpProcess). nat_eq process.number number) o false
  step None = refl
  step (Some process) = refl

pub as_number_bare : (r : Router) → as_number_of (bare_router r) ≡ as_number_of r
as_number_bare r = step r.bgp where
  step : (o : Option BgpProcess) → option_map_or (λ (process : BgpProcess). process.number) (option_map bare_bgp o) 0 ≡ option_map_or
      (λ (process : BgpProcess). process.number) o 0
  step None = refl
  step (Some process) = refl

pub up_addresses_bare : (xs : List Interface) → filter_map up_address (map bare_interface xs) ≡ map bare_address (filter_map up_address xs)
up_addresses_bare xs = filter_map_mapped bare_interface bare_address up_address up_address up_address_bare xs

up_addresses_at_bare : (r : Router) (addr : ℕ) → up_addresses_at (bare_router r) addr ≡ map bare_address (up_addresses_at r addr)
up_addresses_at_bare r addr =
    ap (filter (λ (a : Address). nat_eq a.addr addr)) (up_addresses_bare r.interfaces)
    ∙ filter_mapped bare_address (λ (a : Address). nat_eq a.addr addr) (λ (a : Address). nat_eq a.addr addr) (λ a. refl) (filter_map up_address r.interfaces)

pub share_subnet_bare : (u : Router) (at_u : ℕ) (v : Router) (at_v : ℕ) → share_subnet (bare_router u) at_u (bare_router v) at_v ≡ share_subnet u at_u v at_v
share_subnet_bare u at_u v at_v =
    rw (up_addresses_at_bare u at_u, up_addresses_at_bare v at_v)
    (any_mapped bare_address (λ (a : Address). list_any (same_subnet a) (map bare_address (up_addresses_at v at_v)))
    (λ (a : Address). list_any (same_subnet a) (up_addresses_at v at_v))
    (λ a. any_mapped bare_address (same_subnet (bare_address a)) (same_subnet a) (λ b. refl) (up_addresses_at v at_v)) (up_addresses_at u at_u))

-- Initial routes.

up_in_bare : (p : Prefix) (x : Interface) → is_up_in p (bare_interface x) ≡ is_up_in p x
up_in_bare p x = ap (λ (o : Option Address). option_map_or (same_prefix p) (option_map subnet_of_address o) false) (up_address_bare x)
    ∙ step (up_address x) where
      step : (o : Option Address) → option_map_or (same_prefix p) (option_map subnet_of_address (option_map bare_address o)) false
          ≡ option_map_or (same_prefix p)
          (option_map subnet_of_address o) false
      step None = refl
      step (Some a) = refl

announced_bare : (r : Router) (process : BgpProcess) (p : Prefix) → is_announced (bare_router r) (bare_bgp process) p ≡ is_announced r process p
announced_bare r process p =
    rw (
      any_mapped bare_net (λ (line : NetLine). same_prefix p line.prefix) (λ (line : NetLine). same_prefix p line.prefix) (λ line. refl) process.networks,
      any_mapped bare_interface (is_up_in p) (is_up_in p) (up_in_bare p) r.interfaces,
    ) refl

area_interface_bare : (r : Router) (p : Prefix) → area_interface_in (bare_router r) p ≡ option_map bare_interface (area_interface_in r p)
area_interface_bare r p =
    find_mapped bare_interface (λ x. is_in_area_interface (bare_router r) x && is_up_in p x) (λ x. is_in_area_interface r x && is_up_in p x)
    (λ x. rw (in_area_bare r x, up_in_bare p x) refl) r.interfaces

costs_bare : (o : Option Interface) → option_map cost_of_interface (option_map bare_interface o) ≡ option_map cost_of_interface o
costs_bare None = refl
costs_bare (Some x) = refl

pub initial_route_bare : (r : Router) (p : Prefix) → initial_route (bare_router r) p ≡ initial_route r p
initial_route_bare r p = step r.bgp where
  step : (o : Option BgpProcess) → route_by_process (bare_router r) (option_map bare_bgp o) p ≡ route_by_process r o p
  step (Some process) = ap (λ (b : Bool). cond b (Some None) None) (announced_bare r process p)
  step None = ap (option_map cost_of_interface) (area_interface_bare r p) ∙ costs_bare (area_interface_in r p)

base_bare : (o : Option Base) → option_map_or (λ (base : Base). base.value) (option_map bare_base o) 100 ≡ option_map_or (λ (base : Base). base.value) o 100
base_bare None = refl
base_bare (Some base) = refl

pub preference_bare : (r : Router) → default_preference (bare_router r) ≡ default_preference r
preference_bare r = step r.bgp where
  step : (o : Option BgpProcess) → option_map_or (λ (process : BgpProcess). option_map_or (λ (base : Base). base.value) process.base 100)
      (option_map bare_bgp o) 100 ≡ option_map_or (λ (process : BgpProcess). option_map_or (λ (base : Base). base.value) process.base 100) o 100
  step None = refl
  step (Some process) = base_bare process.base

route_from_bare : (r : Router) (cost : Option ℕ) → route_from (bare_router r) cost ≡ route_from r cost
route_from_bare r None = ap (λ lp. Bgp lp [] []) (preference_bare r)
route_from_bare r (Some cost) = refl

pub start_route_bare : (p : Prefix) (r : Router) → start_route p (bare_router r) ≡ start_route p r
start_route_bare p r = ap (option_map (route_from (bare_router r))) (initial_route_bare r p) ∙ step (initial_route r p) where
  step : (o : Option (Option ℕ)) → option_map (route_from (bare_router r)) o ≡ option_map (route_from r) o
  step None = refl
  step (Some cost) = ap (λ route. Some route) (route_from_bare r cost)
