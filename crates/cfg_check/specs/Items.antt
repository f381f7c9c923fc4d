-- The items of a network at which faults stand, as the contracts of this crate name them: the numbers of their lines, which of them are
-- alike, and the addresses of single interfaces.
use Rattle.std.specs.Prelude.{ℕ, Bool, not, ◌&&◌, List, Option, None, nat_eq, bytes_eq, is_some, if◌then◌else◌}
use Rattle.cfg_ast.specs.meaning.Addresses.{Address}
use Rattle.cfg_ast.specs.declared.interface.Interface.{Interface}
use Rattle.cfg_ast.specs.declared.bgp.BgpProcess.{BgpProcess}
use Rattle.cfg_ast.specs.declared.bgp.Neighbor.{Neighbor}
use Rattle.cfg_ast.specs.declared.ospf.AreaLine.{AreaLine}
use Rattle.cfg_ast.specs.declared.network.Router.{Router}
use Rattle.cfg_ast.specs.declared.policy.MapEntry.{MapEntry}
use Rattle.cfg_ast.specs.declared.policy.Mention.{Mention}
use Rattle.cfg_ast.specs.meaning.PolicyFaults.{line_naming, foreign_prepend}
use Rattle.cfg_ast.specs.meaning.RouterFaults.{ProtocolLine, repeats, overlap, up_addresses_of}
use Rattle.cfg_ast.specs.meaning.Topology.{up_address, is_in_area_interface, is_active_interface, cost_of_interface}

abbrev pub router_line : Router → ℕ
router_line router = router.line

abbrev pub process_line : BgpProcess → ℕ
process_line process = process.line

abbrev pub neighbor_line : Neighbor → ℕ
neighbor_line neighbor = neighbor.line

abbrev pub area_line : AreaLine → ℕ
area_line line = line.line

abbrev pub line_of_protocol : ProtocolLine → ℕ
line_of_protocol l = l.line

abbrev pub line_of_mention : Mention → ℕ
line_of_mention mention = mention.line

abbrev pub bgp_of : Router → Option BgpProcess
bgp_of router = router.bgp

abbrev pub same_name : Router → Router → Bool
same_name r q = bytes_eq r.name q.name

abbrev pub same_number : BgpProcess → BgpProcess → Bool
same_number b c = nat_eq b.number c.number

abbrev pub same_area : AreaLine → AreaLine → Bool
same_area l m = nat_eq l.area m.area

abbrev pub same_address : Address → Address → Bool
same_address a b = nat_eq a.addr b.addr

abbrev pub address_number : Address → ℕ
address_number a = a.addr

abbrev pub has_no_cost : Interface → Bool
has_no_cost x = not (is_some (cost_of_interface x))

-- the address of an interface in the area that has a fault
abbrev pub area_address_with : (Interface → Bool) → Router → Interface → Option Address
area_address_with has_fault router x = if is_in_area_interface router x && has_fault x then up_address x else None

-- the address of an active interface
abbrev pub active_address_on : Router → Interface → Option Address
active_address_on router x = if is_active_interface router x then up_address x else None

abbrev pub overlapping_in : Router → List Address
overlapping_in router = repeats overlap (up_addresses_of router)

-- the line of a neighbour that names a map in, if the map passes the test
abbrev pub map_in_naming : (List ℕ → Bool) → Neighbor → List ℕ
map_in_naming test neighbor = line_naming test neighbor.map_in

abbrev pub foreign_prepend_in : Router → MapEntry → List ℕ
foreign_prepend_in router entry = foreign_prepend router entry.prepend
