-- The cables of a fat tree, between places of switches, and the ports at their ends. An aggregation switch has a
-- cable to each core switch of its stripe, and then one to each edge switch of its pod.
use Rattle.std.specs.Prelude.{ℕ, ◌+◌, ◌*◌, nat_eq, if◌then◌else◌, List, [], ◌∷◌, ◌++◌, map, flat_map}
use Rattle.std.specs.List.{range_with_len, enumerate_from}
use Rattle.fat_gen.specs.declared.cable.Cable.{Cable}
use Rattle.fat_gen.specs.declared.cable.Port.{Port}
use Rattle.fat_gen.specs.Switches.{aggregation_place, edge_place}

abbrev pub core_cable : ℕ → ℕ → ℕ → ℕ → Cable
core_cable half pod number core = record { even = aggregation_place half pod number; odd = core }

-- the stripe of the aggregation switches of one number has the cores from number * half on
abbrev pub core_cables : ℕ → ℕ → ℕ → List Cable
core_cables half pod number = map (core_cable half pod number) (range_with_len (number * half) half)

abbrev pub edge_cable : ℕ → ℕ → ℕ → ℕ → Cable
edge_cable half pod number edge = record { even = aggregation_place half pod number; odd = edge_place half pod edge }

abbrev pub edge_cables : ℕ → ℕ → ℕ → List Cable
edge_cables half pod number = map (edge_cable half pod number) (range_with_len 0 half)

-- the cables of an aggregation switch
abbrev pub switch_cables : ℕ → ℕ → ℕ → List Cable
switch_cables half pod number = core_cables half pod number ++ edge_cables half pod number

abbrev pub pod_cables : ℕ → ℕ → List Cable
pod_cables half pod = flat_map (switch_cables half pod) (range_with_len 0 half)

-- all cables, in order
abbrev pub cables : ℕ → List Cable
cables half = flat_map (pod_cables half) (range_with_len 0 (2 * half))

-- the even address of the cable of this number: 172.16.0.0 and two addresses for each cable before it
abbrev pub even_address : ℕ → ℕ
even_address number = 2886729728 + 2 * number

abbrev pub odd_address : ℕ → ℕ
odd_address number = even_address number + 1

-- the port at the even end, and that at the odd end
abbrev pub even_port : ℕ → Cable → Port
even_port number cable = record { own = even_address number; peer = odd_address number; other = cable.odd }

abbrev pub odd_port : ℕ → Cable → Port
odd_port number cable = record { own = odd_address number; peer = even_address number; other = cable.even }

abbrev pub port_if : ℕ → ℕ → Port → List Port
port_if place «end» port = if nat_eq place «end» then port ∷ [] else []

-- the ports that a cable has at the switch of a place
abbrev pub ports_on : ℕ → ℕ × Cable → List Port
ports_on place (number, cable) = port_if place cable.even (even_port number cable) ++ port_if place cable.odd (odd_port number cable)

-- the ports of the switch of a place, in the order of the cables
abbrev pub ports_at : ℕ → List Cable → List Port
ports_at place cs = flat_map (ports_on place) (enumerate_from 0 cs)
