-- A network without faults has few links. Public: crates above may cite it.
use Rattle.std.proofs.Common.{◌≡◌, ◌≤◌, ◌+◌, List, length, flat_map, Option, Some, None, refl, ap, arith}
use Rattle.std.proofs.lemmas.List.{length-append}
use Rattle.base_kit.specs.declared.protocol.Protocol.{Protocol}
use Rattle.base_kit.specs.declared.protocol.Protocol.TheVariants as protocol
use Rattle.cfg_ast.specs.declared.network.Network.{Network}
use Rattle.cfg_ast.specs.declared.topology.Link.{Link}
use Rattle.cfg_ast.specs.meaning.RouterFaults.{first_beyond, protocol_of, too_many_neighbors_lines}
use Rattle.cfg_check.specs.Items.{neighbor_line}
use Rattle.cfg_ast.specs.meaning.Topology.{neighbors_of, sessions_of, adjacencies_of, links_of}
use Rattle.cfg_ast.specs.printing.WellFormed.{IsWellFormed}
use Rattle.cfg_check.specs.Faultless.{IsFaultless}
use Rattle.cfg_check.proofs.Faultless.{map_nil, none_beyond}
use Rattle.net_topology.proofs.LinkCounts.{few_adjacencies}
use Rattle.net_topology.proofs.OnePeer.{few_sessions}
use Rattle.net_topology.proofs.OneProtocol.{no_bgp, no_ospf, no_process, no_sessions, no_adjacencies}

pub few_neighbors : (n : Network) → IsFaultless n → length (flat_map neighbors_of n.routers) ≤ 131072
unfolding too_many_neighbors_lines
few_neighbors n faultless = none_beyond (flat_map neighbors_of n.routers) 131072
    (map_nil neighbor_line (first_beyond 131072 (flat_map neighbors_of n.routers)) faultless.too_many_neighbors)

of_protocol : (n : Network) → IsWellFormed n → IsFaultless n → (o : Option Protocol) → protocol_of n ≡ o →
    length (sessions_of n) + length (adjacencies_of n) ≤ 1048576
of_protocol n formed faultless None is =
    let none = no_process n is in
    let sessions = ap (λ (l : List Link). length l) (no_sessions n (λ r at. (none r at).0)) in
    let adjacencies = ap (λ (l : List Link). length l) (no_adjacencies n (λ r at. (none r at).1)) in
    omega arith
of_protocol n formed faultless (Some protocol.Bgp) is =
    let adjacencies = ap (λ (l : List Link). length l) (no_adjacencies n (no_ospf n is faultless.mixed_protocols)) in
    let sessions = few_sessions n formed faultless in
    let neighbors = few_neighbors n faultless in
    omega arith
of_protocol n formed faultless (Some protocol.Ospf) is =
    let sessions = ap (λ (l : List Link). length l) (no_sessions n (no_bgp n is faultless.mixed_protocols)) in
    let adjacencies = few_adjacencies n faultless.too_many_links in
    omega arith

pub few_links : (n : Network) → IsWellFormed n → IsFaultless n → length (links_of n) ≤ 1048576
unfolding links_of
few_links n formed faultless =
    let both = length-append (sessions_of n) (adjacencies_of n) in
    let few = of_protocol n formed faultless (protocol_of n) refl in
    omega arith
