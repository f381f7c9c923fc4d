-- Which candidates fit: those from a side, of the key of a route.
use Rattle.std.specs.Prelude.{ℕ, Bool, false, ◌&&◌, List, length, Option, Some, None, nat_eq, bytes_eq, slice_get, slice_index}
use Rattle.std.specs.Option.{option_map_or}
use Rattle.base_kit.specs.declared.act_graph.Edge.{Edge}
use Rattle.srp_core.specs.declared.route.Candidate.{Candidate}
use Rattle.srp_core.specs.declared.route.Route.{Route}
use Rattle.srp_core.specs.declared.route.Route.TheVariants.{Bgp, Ospf}

abbrev pub is_edge_from : List Edge → List ℕ → ℕ → Option ℕ → Bool
is_edge_from edges sides source None = false
is_edge_from edges sides source (Some place) = option_map_or (λ (edge : Edge). nat_eq (slice_index sides edge.exporter) source) (slice_get edges place) false

-- the candidate came over an edge whose exporter is on that side
abbrev pub is_from : List Edge → List ℕ → ℕ → Candidate → Bool
is_from edges sides source candidate = is_edge_from edges sides source candidate.edge

-- routes of one protocol have one preference, one size and the same communities
abbrev pub are_alike : Route → Route → Bool
are_alike (Bgp lp path comms) (Bgp lp' path' comms') = nat_eq lp lp' && (nat_eq (length path) (length path') && bytes_eq comms comms')
are_alike (Bgp lp path comms) (Ospf cost) = false
are_alike (Ospf cost) (Bgp lp path comms) = false
are_alike (Ospf cost) (Ospf cost') = nat_eq cost cost'
