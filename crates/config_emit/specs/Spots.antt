-- The interfaces of a router by their subnets, as they are gathered for `emit`.
use Rattle.std.specs.Prelude.{◌≡◌, ℕ, Bool, true, false, ◌&&◌, List, Option, Some, None, ◌++◌, codes, decimal, find, is_some, Contains, if◌then◌else◌}
use Rattle.std.specs.HashMap.{HashMap, get}
use Rattle.std.specs.Option.{option_map, option_and_then, option_or}
use Rattle.base_kit.specs.Pairs.{same_pair}
use Rattle.base_kit.specs.Prefixes.{Prefix}
use Rattle.base_kit.specs.declared.protocol.Protocol.{Protocol}
use Rattle.base_kit.specs.declared.protocol.Protocol.TheVariants.{Bgp as OverBgp, Ospf as OverOspf}
use Rattle.cfg_ast.specs.meaning.Addresses.{Address}
use Rattle.cfg_ast.specs.meaning.Classes.{initial_route, is_up_in}
use Rattle.cfg_ast.specs.meaning.Topology.{is_in_area_interface}
use Rattle.cfg_ast.specs.printing.Bare.{bare_address}
use Rattle.cfg_ast.specs.declared.interface.Interface.{Interface}
use Rattle.cfg_ast.specs.declared.network.Router.{Router}
use Rattle.number_hashing.specs.declared.hashing.NumberHashing.{NumberHashing}
use Rattle.config_emit.specs.Interfaces.{cost_over}
use Rattle.config_emit.specs.declared.class_interfaces.Spot.{Spot}

abbrev pub SpotsBySubnet : Type 0
SpotsBySubnet = HashMap (ℕ × ℕ) Spot NumberHashing

abbrev pub spot_with : Option ℕ → Address → Spot
spot_with cost a = record { address = a; cost = cost }

-- the address of an interface, and in OSPF its cost
abbrev pub spot_of_interface : Protocol → Interface → Option Spot
spot_of_interface q x = option_map (spot_with (cost_over q x)) x.address

-- in OSPF only an interface in the area counts
abbrev pub counts : Protocol → Router → Interface → Bool
counts OverBgp r x = true
counts OverOspf r x = is_in_area_interface r x

abbrev pub serves : Protocol → Router → ℕ × ℕ → Interface → Bool
serves q r p x = counts q r x && is_up_in (record { addr = p.0; len = p.1 }) x

-- each subnet has the first interface that counts
pub record AreSpots (q : Protocol) (r : Router) (spots : SpotsBySubnet) (interfaces : List Interface) : Type 0 where
  pub each : (p : ℕ × ℕ) → get same_pair spots p ≡ option_and_then (spot_of_interface q) (find (serves q r p) interfaces)

-- an interface was put where there was none before
pub record PutsSpot (q : Protocol) (r : Router) (old new : SpotsBySubnet) (x : Interface) : Type 0 where
  pub each : (p : ℕ × ℕ) → get same_pair new p ≡ option_or (get same_pair old p) (if serves q r p x then spot_of_interface q x else None)

-- the interface of the j-th prefix
abbrev pub interface_at : ℕ → Spot → Interface
interface_at j spot = record {
  name = codes "Vlan" ++ decimal j;
  line = 0;
  address = Some (bare_address spot.address);
  cost = spot.cost;
  shut = false;
}

-- the interface of the j-th prefix, where there is one
abbrev pub served_at : SpotsBySubnet → ℕ × Prefix → Option Interface
served_at spots (j, p) = option_map (interface_at j) (get same_pair spots (p.addr, p.len))

-- the router originates all prefixes
pub record OriginatesEach (r : Router) (prefixes : List Prefix) : Type 0 where
  pub each : (p : Prefix) → Contains prefixes p → is_some (initial_route r p) ≡ true
