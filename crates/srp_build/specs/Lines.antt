-- What the neighbour lines at the ends of a direction mean for one prefix.
use Rattle.std.specs.Prelude.{ℕ, Bool, true, false, List, [], Option, slice_get}
use Rattle.std.specs.Option.{option_map_or}
use Rattle.base_kit.specs.Prefixes.{Prefix}
use Rattle.cfg_ast.specs.declared.bgp.Neighbor.{Neighbor}
use Rattle.cfg_ast.specs.declared.network.Named.{Named}
use Rattle.cfg_ast.specs.declared.network.Router.{Router}
use Rattle.cfg_ast.specs.meaning.Topology.{neighbors_of}
use Rattle.route_maps.specs.declared.plain.Plain.{Plain}
use Rattle.specialize.specs.Sessions.{out_map, in_map}
use Rattle.srp_core.specs.declared.route.Act.{Act}
use Rattle.srp_core.specs.declared.route.Act.TheVariants.{Import}
use Rattle.srp_build.specs.declared.hops.Hop.{Hop}

-- the map and the list that a line names, inbound or outbound
abbrev pub map_named : Bool → Neighbor → Option Named
map_named true line = line.map_in
map_named false line = line.map_out

abbrev pub list_named : Bool → Neighbor → Option Named
list_named true line = line.list_in
list_named false line = line.list_out

-- the plain map of a line, inbound or outbound
abbrev pub map_of_line : Prefix → Router → Bool → Neighbor → Plain
map_of_line p router true line = in_map p router line
map_of_line p router false line = out_map p router line

-- the map without entries, which denies all
abbrev pub deny_all : Plain
deny_all = record { entries = [] }

-- the plain map of the line at a place of a router; the closed one where there is no line
abbrev pub map_at : Prefix → List Router → Bool → ℕ → ℕ → Plain
map_at p routers inbound router item = option_map_or (λ (r : Router). option_map_or (map_of_line p r inbound) (slice_get (neighbors_of r) item) deny_all)
    (slice_get routers router) deny_all

-- whether the line at a place of a router sends communities
abbrev pub sends_at : List Router → ℕ → ℕ → Bool
sends_at routers router item = option_map_or (λ (r : Router). option_map_or (λ (line : Neighbor). line.sends) (slice_get (neighbors_of r) item) false)
    (slice_get routers router) false

-- what the importer takes in a direction
abbrev pub act_of_hop : Prefix → List Router → Hop → Act
act_of_hop p routers hop = Import (map_at p routers false hop.exporter hop.exporter_item) (sends_at routers hop.exporter hop.exporter_item)
    (map_at p routers true hop.importer hop.importer_item)
