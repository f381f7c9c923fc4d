-- The network of the groups: a router for each group, in their order, by its first member.
use Rattle.std.specs.Prelude.{ℕ, ◌-◌, false, List, [], ◌∷◌, ◌++◌, Option, Some, None, map, filter_map, flat_map, nat_eq, is_some, slice_index_or, if◌then◌else◌}
use Rattle.std.specs.List.{enumerate_from, range_with_len}
use Rattle.std.specs.Option.{option_map, option_map_or, unwrap_or}
use Rattle.base_kit.specs.Prefixes.{Prefix}
use Rattle.base_kit.specs.Partition.{members_of}
use Rattle.base_kit.specs.declared.protocol.Protocol.{Protocol}
use Rattle.base_kit.specs.declared.protocol.Protocol.TheVariants.{Bgp as OverBgp, Ospf as OverOspf}
use Rattle.cfg_ast.specs.meaning.Addresses.{Address}
use Rattle.cfg_ast.specs.meaning.Classes.{initial_route}
use Rattle.cfg_ast.specs.meaning.Policy.{default_preference}
use Rattle.cfg_ast.specs.meaning.RouterFaults.{area_of}
use Rattle.cfg_ast.specs.declared.bgp.Base.{Base}
use Rattle.cfg_ast.specs.declared.bgp.BgpProcess.{BgpProcess}
use Rattle.cfg_ast.specs.declared.bgp.NetLine.{NetLine}
use Rattle.cfg_ast.specs.declared.bgp.Neighbor.{Neighbor}
use Rattle.cfg_ast.specs.declared.interface.Interface.{Interface}
use Rattle.cfg_ast.specs.declared.network.Network.{Network}
use Rattle.cfg_ast.specs.declared.network.Notes.{Notes}
use Rattle.cfg_ast.specs.declared.network.Router.{Router}
use Rattle.cfg_ast.specs.declared.ospf.AreaLine.{AreaLine}
use Rattle.cfg_ast.specs.declared.ospf.OspfProcess.{OspfProcess}
use Rattle.abstract_net.specs.declared.qlink.QLink.{QLink}
use Rattle.srp_core.specs.Problem.{number}
use Rattle.config_emit.specs.Plan.{Plan, small, first_router_of, act_into}
use Rattle.config_emit.specs.Maps.{other_end, act_in_map, act_out_map, sends_by, maps_of, name_of_map, lists_of_map, written_map}
use Rattle.config_emit.specs.Interfaces.{class_interfaces, links_at, side_number, link_address, link_interfaces}

-- ---- BGP

abbrev pub class_line_of : Router → Prefix → Option NetLine
class_line_of r p = if is_some (initial_route r p) then Some (record { prefix = p; line = 0 }) else None

-- a `network` line for each prefix of the class that the group originates
abbrev pub net_lines : Plan → ℕ → List NetLine
net_lines e g = option_map_or (λ r. filter_map (class_line_of r) e.class.prefixes) (first_router_of e g) []

abbrev pub base_of : List NetLine → Router → Option Base
base_of [] r = None
base_of (n ∷ ns) r = if nat_eq (default_preference r) 100 then None else Some (record { value = default_preference r; line = 0 })

-- the first member's default preference, where the group originates the class and it is not 100
abbrev pub written_base : Plan → ℕ → Option Base
written_base e g = option_map_or (base_of (net_lines e g)) (first_router_of e g) None

-- The neighbour that g has at a link: the other end's address and AS number. Its in map is that of the act into g;
-- its out map and the sending are those of the act into the other end.
abbrev pub neighbor_at : Plan → ℕ → ℕ × QLink → Neighbor
neighbor_at e g (t, l) = record {
  addr = (link_address t (1 - side_number g l)).addr;
  remote = number (small e) (other_end g l);
  line = 0;
  shut = false;
  sends = sends_by (act_into e (other_end g l) l);
  list_in = None;
  list_out = None;
  map_in = name_of_map (maps_of e g) (Some (act_in_map (act_into e g l)));
  map_out = name_of_map (maps_of e g) (act_out_map (act_into e (other_end g l) l));
}

abbrev pub process_of : Plan → ℕ → BgpProcess
process_of e g = record {
  number = number (small e) g;
  line = 0;
  base = written_base e g;
  networks = net_lines e g;
  neighbors = map (neighbor_at e g) (links_at e g);
}

-- a group has a process if it has an AS number, which it has if it originates the class or has a link
abbrev pub written_bgp : Protocol → Plan → ℕ → Option BgpProcess
written_bgp OverBgp e g = if nat_eq (number (small e) g) 0 then None else Some (process_of e g)
written_bgp OverOspf e g = None

-- ---- OSPF

-- a `network` line for the address of an interface alone
abbrev pub host_area_line : ℕ → Interface → Option AreaLine
host_area_line area x = option_map (λ (a : Address). record { addr = a.addr; wild = 0; area = area; line = 0 }) x.address

abbrev pub interface_name : Interface → List ℕ
interface_name x = x.name

-- a process where there is an interface; those of the class are passive
abbrev pub ospf_on : ℕ → List Interface → List Interface → Option OspfProcess
ospf_on area class [] = None
ospf_on area class (x ∷ xs) = Some (record {
  number = 1;
  line = 0;
  passive_default = false;
  passive = map interface_name class;
  not_passive = [];
  areas = filter_map (host_area_line area) (x ∷ xs);
})

-- the area of the network read
abbrev pub area_number : Plan → ℕ
area_number e = unwrap_or (area_of e.network) 0

abbrev pub ospf_of : Protocol → Plan → ℕ → Option OspfProcess
ospf_of OverBgp e g = None
ospf_of OverOspf e g = ospf_on (area_number e) (class_interfaces e g) (class_interfaces e g ++ link_interfaces e g)

-- ---- routers

-- the router of a group, under the name of its first member
abbrev pub emitted_router : Plan → ℕ → Router
emitted_router e g = record {
  name = slice_index_or (small e).names g [];
  line = 0;
  interfaces = class_interfaces e g ++ link_interfaces e g;
  bgp = written_bgp e.problem.protocol e g;
  ospf = ospf_of e.problem.protocol e g;
  prefix_lists = [];
  community_lists = flat_map lists_of_map (enumerate_from 1 (maps_of e g));
  route_maps = map (written_map (number (small e) g)) (enumerate_from 1 (maps_of e g));
}

-- The network of the groups.
unfoldable pub emitted : Plan → Network
emitted e = record { routers = map (emitted_router e) (range_with_len 0 e.count) }

-- ---- notes

abbrev pub group_name : Plan → ℕ → List ℕ
group_name e u = slice_index_or e.problem.names u []

-- for each group the names of its members, ascending by place
unfoldable pub notes_of : Plan → Notes
notes_of e = record { members = map (λ g. map (group_name e) (members_of e.groups g)) (range_with_len 0 e.count) }
