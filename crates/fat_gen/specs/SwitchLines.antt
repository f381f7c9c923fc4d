-- The running configuration of a switch of a fat tree, as a router of its own autonomous system.
use Rattle.std.specs.Prelude.{ℕ, ◌+◌, ◌*◌, List, [], ◌++◌, codes, decimal, flat_map}
use Rattle.std.specs.List.{enumerate_from}
use Rattle.cfg_ast.specs.printing.Printed.{address_text}
use Rattle.fat_gen.specs.declared.switch.Switch.{Switch}
use Rattle.fat_gen.specs.declared.switch.Switch.TheVariants.{Core, Aggregation, Edge}
use Rattle.fat_gen.specs.declared.cable.Cable.{Cable}
use Rattle.fat_gen.specs.declared.cable.Port.{Port}
use Rattle.fat_gen.specs.Cables.{ports_at}

abbrev pub name_text : Switch → List ℕ
name_text (Core number) = codes "core" ++ decimal number
name_text (Aggregation pod number) = codes "agg" ++ decimal pod ++ codes "-" ++ decimal number
name_text (Edge pod number) = codes "edge" ++ decimal pod ++ codes "-" ++ decimal number

-- the AS number of the switch of a place, from the private numbers of four octets (RFC 6996)
abbrev pub as_number : ℕ → ℕ
as_number place = 4200000000 + place

-- the network 10.POD.NUMBER.0/24 of the hosts of an edge switch
abbrev pub host_network : ℕ → ℕ → ℕ
host_network pod number = 167772160 + pod * 65536 + number * 256

abbrev pub name_line : Switch → List ℕ
name_line switch = codes "hostname " ++ name_text switch ++ codes "\n"

-- the line of an address with its mask
abbrev pub masked_address_line : ℕ → List ℕ → List ℕ
masked_address_line address mask = codes " ip address " ++ address_text address ++ codes " " ++ mask ++ codes "\n"

-- the interface to the hosts of a network has its first address
abbrev pub interface_into : ℕ → List ℕ
interface_into network =
    codes "interface Vlan1\n"
    ++ masked_address_line (network + 1) (codes "255.255.255.0")

-- an edge switch has hosts
abbrev pub host_interface : Switch → List ℕ
host_interface (Core number) = []
host_interface (Aggregation pod number) = []
host_interface (Edge pod number) = interface_into (host_network pod number)

abbrev pub ethernet_line : ℕ → List ℕ
ethernet_line number = codes "interface GigabitEthernet0/" ++ decimal number ++ codes "\n"

-- ports are numbered from 0
abbrev pub port_interface : ℕ × Port → List ℕ
port_interface (number, port) =
    ethernet_line number
    ++ masked_address_line port.own (codes "255.255.255.254")

abbrev pub port_interfaces : List Port → List ℕ
port_interfaces ports = flat_map port_interface (enumerate_from 0 ports)

abbrev pub bgp_line : ℕ → List ℕ
bgp_line place = codes "router bgp " ++ decimal (as_number place) ++ codes "\n"

abbrev pub announced_line : Switch → List ℕ
announced_line (Core number) = []
announced_line (Aggregation pod number) = []
announced_line (Edge pod number) = codes " network " ++ address_text (host_network pod number) ++ codes " mask 255.255.255.0\n"

-- the end of a line that gives a neighbour's AS number
abbrev pub remote_words : ℕ → List ℕ
remote_words number = codes " remote-as " ++ decimal number ++ codes "\n"

abbrev pub remote_as_line : ℕ → ℕ → List ℕ
remote_as_line address number = codes " neighbor " ++ address_text address ++ remote_words number

abbrev pub sends_line : ℕ → List ℕ
sends_line address = codes " neighbor " ++ address_text address ++ codes " send-community\n"

-- the switch at the other end of a port's cable is a neighbour, to which communities are sent
abbrev pub switch_neighbors : Port → List ℕ
switch_neighbors port =
    remote_as_line port.peer (as_number port.other)
    ++ sends_line port.peer

abbrev pub switch_interfaces : Switch → List Port → List ℕ
switch_interfaces switch ports =
    host_interface switch
    ++ port_interfaces ports

abbrev pub process_lines : ℕ → Switch → List Port → List ℕ
process_lines place switch ports =
    bgp_line place
    ++ announced_line switch
    ++ flat_map switch_neighbors ports

-- the lines of a switch with its place and its ports
abbrev pub lines_with : ℕ → Switch → List Port → List ℕ
lines_with place switch ports =
    name_line switch
    ++ switch_interfaces switch ports
    ++ process_lines place switch ports
    ++ codes "end\n"

abbrev pub switch_lines : List Cable → ℕ × Switch → List ℕ
switch_lines cables (place, switch) = lines_with place switch (ports_at place cables)
