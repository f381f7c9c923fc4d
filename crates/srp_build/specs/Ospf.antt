-- What the problem of an OSPF network depends on.
use Rattle.std.specs.Prelude.{◌≡◌, ℕ, ◌<◌, ◌^◌, true, length, Some, None, Contains, slice_get}
use Rattle.base_kit.specs.declared.protocol.Protocol.TheVariants as protocol
use Rattle.cfg_ast.specs.declared.network.Network.{Network}
use Rattle.cfg_ast.specs.declared.network.Router.{Router}
use Rattle.cfg_ast.specs.declared.interface.Interface.{Interface}
use Rattle.cfg_ast.specs.meaning.Topology.{links_of, is_in_area_interface, cost_of_interface, cost_of}
use Rattle.cfg_ast.specs.meaning.RouterFaults.{protocol_of}

-- a cost of an interface, at least 1
pub record HasCost (x : Interface) : Type 0 where
  pub cost : ℕ
  pub is : cost_of_interface x ≡ Some cost
  pub positive : 0 < cost

-- OSPF alone, with a cost for each interface in the area, and not too many routers and links
pub record IsOspf (n : Network) : Type 0 where
  pub protocol : protocol_of n ≡ Some protocol.Ospf
  pub unmixed : (router : Router) → Contains n.routers router → router.bgp ≡ None
  pub priced : (router : Router) (x : Interface) → Contains n.routers router → Contains router.interfaces x → is_in_area_interface router x ≡ true → HasCost x
  pub few_routers : length n.routers < 2 ^ 32
  pub few_links : length (links_of n) < 2 ^ 31

-- the router at a place has at another place an interface with that cost
pub record IsPriced (n : Network) (place item cost : ℕ) : Type 0 where
  pub router : Router
  pub at : slice_get n.routers place ≡ Some router
  pub is : cost_of router item ≡ Some cost
  pub positive : 0 < cost
