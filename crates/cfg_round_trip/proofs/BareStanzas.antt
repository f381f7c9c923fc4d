-- What a line adds to an open stanza does not depend on line numbers.
use Rattle.std.proofs.Common.{◌≡◌, ℕ, Bool, true, false, List, [], ◌∷◌, ◌++◌, map, Option, Some, None, Ok, refl, sym, ap, ◌∙◌}
use Rattle.std.specs.Prelude.{◌==◌, if◌then◌else◌}
use Rattle.std.specs.List.{list_any}
use Rattle.std.proofs.lemmas.List.{map_push}
use Rattle.cfg_ast.specs.declared.interface.Interface.{Interface}
use Rattle.cfg_ast.specs.declared.bgp.NetLine.{NetLine}
use Rattle.cfg_ast.specs.declared.bgp.Neighbor.{Neighbor}
use Rattle.cfg_ast.specs.declared.bgp.BgpProcess.{BgpProcess}
use Rattle.cfg_ast.specs.declared.ospf.AreaLine.{AreaLine}
use Rattle.cfg_ast.specs.declared.ospf.OspfProcess.{OspfProcess}
use Rattle.cfg_ast.specs.declared.policy.MapEntry.{MapEntry}
use Rattle.cfg_ast.specs.declared.items.RouterItem.{RouterItem}
use Rattle.cfg_ast.specs.declared.items.RouterItem.TheVariants as item
use Rattle.cfg_ast.specs.declared.items.PolicyItem.{PolicyItem}
use Rattle.cfg_ast.specs.declared.items.PolicyItem.TheVariants as policy
use Rattle.cfg_ast.specs.text.Stanzas.{set_interface, has_network, has_neighbor, new_neighbor, set_neighbor, at_neighbor, with_peer, peer_of, set_process, set_bgp_for, set_bgp, same_area_line, with_area, set_ospf}
use Rattle.cfg_ast.specs.text.Steps.{◌>>=◌}
use Rattle.base_kit.specs.Prefixes.{same_prefix}
use Rattle.cfg_ast.specs.text.PolicyLines.{set_entry}
use Rattle.cfg_ast.specs.printing.Bare.{bare_interface, bare_net, bare_neighbor, bare_bgp, bare_area, bare_ospf, bare_map_entry}
use Rattle.cfg_round_trip.proofs.Bare.{bare_item, bare_policy, on_result, then_same, once_same, is_some-map, any-map}

-- ---- an interface

pub set_interface_same : (n : ℕ) (said : RouterItem) (i : Interface) →
    set_interface 0 (bare_item said) (bare_interface i) ≡ on_result bare_interface (set_interface n said i)
unfolding set_interface
set_interface_same n (item.IpAddress address) i = once_same bare_interface n _ _ _ _ (is_some-map _ i.address) refl
set_interface_same n (item.Cost cost) i = once_same bare_interface n _ _ _ _ refl refl
set_interface_same n item.Shutdown i = refl
set_interface_same n _ i = refl

-- ---- a BGP process

set_neighbor_same : (n : ℕ) (said : RouterItem) (p : Neighbor) →
    set_neighbor 0 (bare_item said) (bare_neighbor p) ≡ on_result bare_neighbor (set_neighbor n said p)
unfolding set_neighbor
set_neighbor_same n (item.PeerShut addr) p = refl
set_neighbor_same n (item.PeerSends addr) p = refl
set_neighbor_same n (item.PeerList addr list true) p = once_same bare_neighbor n _ _ _ _ (is_some-map _ p.list_in) refl
set_neighbor_same n (item.PeerList addr list false) p = once_same bare_neighbor n _ _ _ _ (is_some-map _ p.list_out) refl
set_neighbor_same n (item.PeerMap addr map true) p = once_same bare_neighbor n _ _ _ _ (is_some-map _ p.map_in) refl
set_neighbor_same n (item.PeerMap addr map false) p = once_same bare_neighbor n _ _ _ _ (is_some-map _ p.map_out) refl
set_neighbor_same n _ p = refl

abbrev bare_neighbors : List Neighbor → List Neighbor
bare_neighbors ps = map bare_neighbor ps

at_neighbor_same : (n addr : ℕ) (said : RouterItem) (ps : List Neighbor) →
    at_neighbor 0 addr (set_neighbor 0 (bare_item said)) (bare_neighbors ps) ≡ on_result bare_neighbors (at_neighbor n addr (set_neighbor n said) ps)
unfolding at_neighbor
at_neighbor_same n addr said [] = refl
at_neighbor_same n addr said (p ∷ ps) = by (p.addr == addr) (at_neighbor_same n addr said ps)
  where
    by : (b : Bool) → at_neighbor 0 addr (set_neighbor 0 (bare_item said)) (bare_neighbors ps) ≡ on_result bare_neighbors
        (at_neighbor n addr (set_neighbor n said) ps)
        → (if b then set_neighbor 0 (bare_item said) (bare_neighbor p) >>=
        (λ (q : Neighbor). Ok (q ∷ bare_neighbors ps)) else at_neighbor 0 addr (set_neighbor 0 (bare_item said)) (bare_neighbors ps) >>=
        (λ (qs : List Neighbor). Ok (bare_neighbor p ∷ qs)))
        ≡ on_result bare_neighbors (if b then set_neighbor n said p >>= (λ (q : Neighbor). Ok (q ∷ ps)) else at_neighbor n addr (set_neighbor n said) ps >>=
        (λ (qs : List Neighbor). Ok (p ∷ qs)))
    by true rest = then_same bare_neighbor bare_neighbors _ _ _ _ (set_neighbor_same n said p) (λ q. refl)
    by false rest = then_same bare_neighbors bare_neighbors _ _ _ _ rest (λ qs. refl)

with_peer_same : (n addr : ℕ) (said : RouterItem) (b : BgpProcess) →
    with_peer 0 addr (bare_item said) (bare_bgp b) ≡ on_result bare_bgp (with_peer n addr said b)
with_peer_same n addr said b = then_same bare_neighbors bare_bgp _ _ _ _ (at_neighbor_same n addr said b.neighbors) (λ ps. refl)

pub has_network_same : (nets : List NetLine) (net : NetLine) → has_network (map bare_net nets) net.prefix ≡ has_network nets net.prefix
unfolding has_network
has_network_same nets net = any-map bare_net (λ (other : NetLine). same_prefix other.prefix net.prefix)
    (λ (other : NetLine). same_prefix other.prefix net.prefix) (λ other. refl) nets

pub has_neighbor_same : (ps : List Neighbor) (addr : ℕ) → has_neighbor (map bare_neighbor ps) addr ≡ has_neighbor ps addr
unfolding has_neighbor
has_neighbor_same ps addr = any-map bare_neighbor (λ (p : Neighbor). p.addr == addr) (λ (p : Neighbor). p.addr == addr) (λ p. refl) ps

abbrev with_nets : BgpProcess → List NetLine → BgpProcess
with_nets b nets = record b { networks = nets }

abbrev with_neighbors : BgpProcess → List Neighbor → BgpProcess
with_neighbors b ps = record b { neighbors = ps }

set_process_same : (n : ℕ) (said : RouterItem) (b : BgpProcess) → set_process 0 (bare_item said) (bare_bgp b) ≡ on_result bare_bgp (set_process n said b)
unfolding set_process
set_process_same n (item.Base base) b = once_same bare_bgp n _ _ _ _ (is_some-map _ b.base) refl
set_process_same n (item.Network net) b =
    once_same bare_bgp n _ _ _ _ (has_network_same b.networks net) (ap (with_nets (bare_bgp b)) (sym (map_push bare_net b.networks net)))
set_process_same n (item.RemoteAs addr number) b =
    once_same bare_bgp n _ _ _ _ (has_neighbor_same b.neighbors addr)
    (ap (with_neighbors (bare_bgp b)) (sym (map_push bare_neighbor b.neighbors (new_neighbor n addr number))))
set_process_same n _ b = refl

peer_of_same : (said : RouterItem) → peer_of (bare_item said) ≡ peer_of said
peer_of_same (item.PeerShut addr) = refl
peer_of_same (item.PeerSends addr) = refl
peer_of_same (item.PeerList addr list inward) = refl
peer_of_same (item.PeerMap addr map inward) = refl
peer_of_same _ = refl

pub set_bgp_same : (n : ℕ) (said : RouterItem) (b : BgpProcess) → set_bgp 0 (bare_item said) (bare_bgp b) ≡ on_result bare_bgp (set_bgp n said b)
unfolding set_bgp
set_bgp_same n said b = ap (λ (o : Option ℕ). set_bgp_for o 0 (bare_item said) (bare_bgp b)) (peer_of_same said) ∙ by (peer_of said)
  where
    by : (o : Option ℕ) → set_bgp_for o 0 (bare_item said) (bare_bgp b) ≡ on_result bare_bgp (set_bgp_for o n said b)
    by (Some addr) = with_peer_same n addr said b
    by None = set_process_same n said b

-- ---- an OSPF process

with_area_same : (areas : List AreaLine) (area : AreaLine) → with_area (map bare_area areas) (bare_area area) ≡ map bare_area (with_area areas area)
unfolding with_area
with_area_same areas area =
    ap (λ (b : Bool). if b then map bare_area areas else map bare_area areas ++ bare_area area ∷ [])
    (any-map bare_area (same_area_line (bare_area area)) (same_area_line area) (λ other. refl) areas) ∙ by (list_any (same_area_line area) areas)
  where
    by : (b : Bool) → (if b then map bare_area areas else map bare_area areas ++ bare_area area ∷ []) ≡ map bare_area (if b then areas else areas ++ area ∷ [])
    by true = refl
    by false = sym (map_push bare_area areas area)

abbrev with_areas : OspfProcess → List AreaLine → OspfProcess
with_areas o areas = record o { areas = areas }

pub set_ospf_same : (said : RouterItem) (o : OspfProcess) → set_ospf (bare_item said) (bare_ospf o) ≡ bare_ospf (set_ospf said o)
unfolding set_ospf
set_ospf_same (item.Area area) o = ap (with_areas (bare_ospf o)) (with_area_same o.areas area)
set_ospf_same item.PassiveDefault o = refl
set_ospf_same (item.Passive name) o = refl
set_ospf_same (item.NotPassive name) o = refl
set_ospf_same _ o = refl

-- ---- an entry of a route map

pub set_entry_same : (n : ℕ) (said : PolicyItem) (e : MapEntry) →
    set_entry 0 (bare_policy said) (bare_map_entry e) ≡ on_result bare_map_entry (set_entry n said e)
unfolding set_entry
set_entry_same n (policy.MatchPrefixes names) e = once_same bare_map_entry n _ _ _ _ (is_some-map _ e.prefixes) refl
set_entry_same n (policy.MatchComms names exact) e = once_same bare_map_entry n _ _ _ _ (is_some-map _ e.comms) refl
set_entry_same n (policy.Lp lp) e = once_same bare_map_entry n _ _ _ _ refl refl
set_entry_same n (policy.Comms change) e = once_same bare_map_entry n _ _ _ _ refl refl
set_entry_same n (policy.Delete list) e = once_same bare_map_entry n _ _ _ _ (is_some-map _ e.delete) refl
set_entry_same n (policy.Prepend prepend) e = once_same bare_map_entry n _ _ _ _ (is_some-map _ e.prepend) refl
set_entry_same n _ e = refl
