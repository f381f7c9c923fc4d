-- The interfaces of a router that is written: first those in the prefixes of the class, then those of
-- its links.
use Rattle.std.specs.Prelude.{ℕ, ◌+◌, ◌*◌, Bool, false, List, [], ◌++◌, Option, Some, None, map, filter, filter_map, find, nat_eq, is_some, codes, decimal, if◌then◌else◌}
use Rattle.std.specs.List.{enumerate_from}
use Rattle.std.specs.Option.{option_map, option_map_or, option_and_then}
use Rattle.base_kit.specs.Prefixes.{Prefix}
use Rattle.base_kit.specs.declared.protocol.Protocol.{Protocol}
use Rattle.base_kit.specs.declared.protocol.Protocol.TheVariants.{Bgp as OverBgp, Ospf as OverOspf}
use Rattle.cfg_ast.specs.meaning.Addresses.{Address}
use Rattle.cfg_ast.specs.meaning.Classes.{initial_route, is_up_in, area_interface_in}
use Rattle.cfg_ast.specs.meaning.Topology.{cost_of_interface}
use Rattle.cfg_ast.specs.printing.Bare.{bare_address}
use Rattle.cfg_ast.specs.declared.interface.Interface.{Interface}
use Rattle.cfg_ast.specs.declared.network.Router.{Router}
use Rattle.abstract_net.specs.declared.qlink.QLink.{QLink}
use Rattle.srp_core.specs.declared.route.Act.{Act}
use Rattle.srp_core.specs.declared.route.Act.TheVariants.{Import, Cost}
use Rattle.srp_quotient.specs.Groups.{touches}
use Rattle.config_emit.specs.Plan.{Plan, first_router_of, act_into}

-- ---- the prefixes of the class

-- the first up interface in the prefix; in OSPF of those in the area
abbrev pub interface_in : Protocol → Router → Prefix → Option Interface
interface_in OverBgp r p = find (is_up_in p) r.interfaces
interface_in OverOspf r p = area_interface_in r p

abbrev pub cost_over : Protocol → Interface → Option ℕ
cost_over OverBgp x = None
cost_over OverOspf x = cost_of_interface x

-- the interface of the j-th prefix: the address of the first member's interface, and in OSPF its cost
abbrev pub class_interface : Protocol → ℕ → Interface → Interface
class_interface q j x = record {
  name = codes "Vlan" ++ decimal j;
  line = 0;
  address = option_map bare_address x.address;
  cost = cost_over q x;
  shut = false;
}

-- where the router originates the prefix
abbrev pub class_interface_in : Protocol → Router → ℕ × Prefix → Option Interface
class_interface_in q r (j, p) = if is_some (initial_route r p) then option_map (class_interface q j) (interface_in q r p) else None

-- for each of the prefixes that the router originates, numbered from 1
abbrev pub class_interfaces_on : Protocol → List Prefix → Router → List Interface
class_interfaces_on q prefixes r = filter_map (class_interface_in q r) (enumerate_from 1 prefixes)

unfoldable pub class_interfaces : Plan → ℕ → List Interface
class_interfaces e g = option_map_or (class_interfaces_on e.problem.protocol e.class.prefixes) (first_router_of e g) []

-- ---- the links

abbrev pub is_at : ℕ → ℕ × QLink → Bool
is_at g (t, l) = touches g l

-- the links of a group in their order, each with its number among all, from 0
unfoldable pub links_at : Plan → ℕ → List (ℕ × QLink)
links_at e g = filter (is_at g) (enumerate_from 0 e.links)

-- 0 for the low end of a link, 1 for the high one
abbrev pub side_number : ℕ → QLink → ℕ
side_number g l = if nat_eq l.low g then 0 else 1

-- Link t has two addresses of 100.64.0.0/10 (RFC 6598), from 100.64.0.0 + 2 t on: the even one for its low end,
-- the odd one for the high.
abbrev pub link_address : ℕ → ℕ → Address
link_address t side = record { addr = 1681915904 + 2 * t + side; len = 31; line = 0 }

abbrev pub cost_by : Act → Option ℕ
cost_by (Import out sends into) = None
cost_by (Cost cost) = Some cost

-- the interface of the k-th link of g, in OSPF with the cost that the link has into g
abbrev pub link_interface : Plan → ℕ → ℕ × (ℕ × QLink) → Interface
link_interface e g (k, (t, l)) = record {
  name = codes "GigabitEthernet0/" ++ decimal k;
  line = 0;
  address = Some (link_address t (side_number g l));
  cost = option_and_then cost_by (act_into e g l);
  shut = false;
}

unfoldable pub link_interfaces : Plan → ℕ → List Interface
link_interfaces e g = map (link_interface e g) (enumerate_from 1 (links_at e g))
