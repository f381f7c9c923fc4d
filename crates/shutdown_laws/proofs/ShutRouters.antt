-- What a router keeps where a neighbour of it has `shutdown`.
use Rattle.std.proofs.Common.{◌≡◌, ℕ, List, Option, Some, None, refl}
use Rattle.std.specs.Option.{option_map}
use Rattle.base_kit.specs.Prefixes.{Prefix}
use Rattle.cfg_ast.specs.declared.bgp.BgpProcess.{BgpProcess}
use Rattle.cfg_ast.specs.declared.bgp.Neighbor.{Neighbor}
use Rattle.cfg_ast.specs.declared.network.Router.{Router}
use Rattle.cfg_ast.specs.meaning.RouterFaults.{protocol_lines_of}
use Rattle.cfg_ast.specs.meaning.Topology.{neighbors_of, has_number}
use Rattle.cfg_ast.specs.declared.ospf.OspfProcess.{OspfProcess}
use Rattle.route_maps.specs.Sessions.{session_import}
use Rattle.srp_core.specs.ProblemOf.{as_number_of, start_route}
use Rattle.shutdown_laws.specs.Shutdown.{changed_at, shut_line, shut_in, shut_on}

-- the router with this process
abbrev with_process : Router → Option BgpProcess → Router
with_process router process = record router { bgp = process }

shut_number : (item number : ℕ) (router : Router) (o : Option BgpProcess) →
    has_number (with_process router (option_map (shut_in item) o)) number ≡ has_number (with_process router o) number
shut_number item number router None = refl
shut_number item number router (Some process) = refl

pub same_number : (item number : ℕ) (router : Router) → has_number (shut_on item router) number ≡ has_number router number
same_number item number router = shut_number item number router router.bgp

shut_neighbors : (item : ℕ) (router : Router) (o : Option BgpProcess) →
    neighbors_of (with_process router (option_map (shut_in item) o)) ≡ changed_at shut_line item (neighbors_of (with_process router o))
shut_neighbors item router None = refl
shut_neighbors item router (Some process) = refl

pub neighbors_shut : (item : ℕ) (router : Router) → neighbors_of (shut_on item router) ≡ changed_at shut_line item (neighbors_of router)
neighbors_shut item router = shut_neighbors item router router.bgp

shut_as_number : (item : ℕ) (router : Router) (o : Option BgpProcess) →
    as_number_of (with_process router (option_map (shut_in item) o)) ≡ as_number_of (with_process router o)
shut_as_number item router None = refl
shut_as_number item router (Some process) = refl

pub same_as_number : (item : ℕ) (router : Router) → as_number_of (shut_on item router) ≡ as_number_of router
same_as_number item router = shut_as_number item router router.bgp

shut_start : (item : ℕ) (prefix : Prefix) (router : Router) (o : Option BgpProcess) →
    start_route prefix (with_process router (option_map (shut_in item) o)) ≡ start_route prefix (with_process router o)
shut_start item prefix router None = refl
shut_start item prefix router (Some process) = refl

pub same_start : (item : ℕ) (prefix : Prefix) (router : Router) → start_route prefix (shut_on item router) ≡ start_route prefix router
same_start item prefix router = shut_start item prefix router router.bgp

shut_lines : (item : ℕ) (router : Router) (o : Option BgpProcess) (p : Option OspfProcess) →
    protocol_lines_of (record router { bgp = option_map (shut_in item) o; ospf = p }) ≡ protocol_lines_of (record router { bgp = o; ospf = p })
shut_lines item router None None = refl
shut_lines item router None (Some process) = refl
shut_lines item router (Some process) None = refl
shut_lines item router (Some process) (Some other) = refl

pub same_lines : (item : ℕ) (router : Router) → protocol_lines_of (shut_on item router) ≡ protocol_lines_of router
same_lines item router = shut_lines item router router.bgp router.ospf

shut_importer : (item : ℕ) (prefix : Prefix) (exporter : Router) (out : Neighbor) (importer : Router) (o : Option BgpProcess) (into : Neighbor)
    (comms : List ℕ) →
    session_import prefix exporter out (with_process importer (option_map (shut_in item) o)) into comms
    ≡ session_import prefix exporter out (with_process importer o) into comms
shut_importer item prefix exporter out importer None into comms = refl
shut_importer item prefix exporter out importer (Some process) into comms = refl

pub same_import_into : (item : ℕ) (prefix : Prefix) (exporter : Router) (out : Neighbor) (importer : Router) (into : Neighbor) (comms : List ℕ) →
    session_import prefix exporter out (shut_on item importer) into comms ≡ session_import prefix exporter out importer into comms
same_import_into item prefix exporter out importer into comms = shut_importer item prefix exporter out importer importer.bgp into comms

pub same_import_from : (item : ℕ) (prefix : Prefix) (exporter : Router) (out : Neighbor) (importer : Router) (into : Neighbor) (comms : List ℕ) →
    session_import prefix (shut_on item exporter) out importer into comms ≡ session_import prefix exporter out importer into comms
same_import_from item prefix exporter out importer into comms = refl
