-- The lines of a BGP process keep what is well formed.
use Rattle.std.proofs.Common.{◌≡◌, ℕ, true, false, List, [], ◌∷◌, map, Option, Some, None, Result, refl, ap}
use Rattle.std.specs.Prelude.{IfOk, is_some, ◌==◌}
use Rattle.std.specs.List.{AllByRecursion}
use Rattle.cfg_ast.specs.declared.bgp.Neighbor.{Neighbor}
use Rattle.cfg_ast.specs.declared.bgp.BgpProcess.{BgpProcess}
use Rattle.cfg_ast.specs.declared.items.RouterItem.{RouterItem}
use Rattle.cfg_ast.specs.declared.items.RouterItem.TheVariants as item
use Rattle.cfg_ast.specs.declared.refusal.ReadRefusal.{ReadRefusal}
use Rattle.cfg_ast.specs.text.Stanzas.{has_network, has_neighbor, new_neighbor, set_neighbor, at_neighbor, with_peer, peer_of, set_process, set_bgp_for, set_bgp}
use Rattle.cfg_ast.specs.printing.WellFormed.{IsWellFormedNetLine, same_net, IsWellFormedNeighbor, same_neighbor, IsWellFormedBgp}
use Rattle.given_laws.proofs.Given.{either, then_step, stands_once}
use Rattle.given_laws.proofs.Each.{all_push, distinct_new, distinct_keys}
use Rattle.given_laws.proofs.RouterItems.{IsRouterItem}

-- ---- a neighbour

-- well formed, and of the same address
abbrev IsNeighborOf : Neighbor → Neighbor → Type 0
IsNeighborOf p q = IsWellFormedNeighbor q × (q.addr ≡ p.addr)

neighbor_step : (n : ℕ) (said : RouterItem) (p : Neighbor) → IsRouterItem said → IsWellFormedNeighbor p → IfOk (set_neighbor n said p) (IsNeighborOf p)
unfolding set_neighbor
neighbor_step n (item.PeerShut addr) p said is =
    (record { addr = is.addr; remote = is.remote; list_in = is.list_in; list_out = is.list_out; map_in = is.map_in; map_out = is.map_out }, refl)
neighbor_step n (item.PeerSends addr) p said is =
    (record { addr = is.addr; remote = is.remote; list_in = is.list_in; list_out = is.list_out; map_in = is.map_in; map_out = is.map_out }, refl)
neighbor_step n (item.PeerList addr list true) p said is =
    stands_once (IsNeighborOf p) n (is_some p.list_in) _
    (λ e. (record { addr = is.addr; remote = is.remote; list_in = said; list_out = is.list_out; map_in = is.map_in; map_out = is.map_out }, refl))
neighbor_step n (item.PeerList addr list false) p said is =
    stands_once (IsNeighborOf p) n (is_some p.list_out) _
    (λ e. (record { addr = is.addr; remote = is.remote; list_in = is.list_in; list_out = said; map_in = is.map_in; map_out = is.map_out }, refl))
neighbor_step n (item.PeerMap addr map true) p said is =
    stands_once (IsNeighborOf p) n (is_some p.map_in) _
    (λ e. (record { addr = is.addr; remote = is.remote; list_in = is.list_in; list_out = is.list_out; map_in = said; map_out = is.map_out }, refl))
neighbor_step n (item.PeerMap addr map false) p said is =
    stands_once (IsNeighborOf p) n (is_some p.map_out) _
    (λ e. (record { addr = is.addr; remote = is.remote; list_in = is.list_in; list_out = is.list_out; map_in = is.map_in; map_out = said }, refl))
neighbor_step n _ p said is = (is, refl)

-- ---- all neighbours

abbrev addresses : List Neighbor → List ℕ
addresses peers = map (λ (p : Neighbor). p.addr) peers

-- well formed, and of the same addresses
abbrev AreNeighborsOf : List Neighbor → List Neighbor → Type 0
AreNeighborsOf ps qs = AllByRecursion IsWellFormedNeighbor qs × (addresses qs ≡ addresses ps)

changed_neighbor : (n addr : ℕ) (change : Neighbor → Result Neighbor ReadRefusal) →
    ((p : Neighbor) → IsWellFormedNeighbor p → IfOk (change p) (IsNeighborOf p)) → (ps : List Neighbor) → AllByRecursion IsWellFormedNeighbor ps →
    IfOk (at_neighbor n addr change ps) (AreNeighborsOf ps)
unfolding at_neighbor
changed_neighbor n addr change changes [] all = tt
changed_neighbor n addr change changes (p ∷ ps) all =
    either (AreNeighborsOf (p ∷ ps)) (p.addr == addr) _ _
    (λ e. then_step (IsNeighborOf p) (AreNeighborsOf (p ∷ ps)) (change p) _ (changes p all.0) (λ q is. ((is.0, all.1), ap (λ (a : ℕ). a ∷ addresses ps) is.1)))
    (λ e. then_step (AreNeighborsOf ps) (AreNeighborsOf (p ∷ ps)) (at_neighbor n addr change ps) _ (changed_neighbor n addr change changes ps all.1)
    (λ qs are. ((all.0, are.0), ap (λ (rest : List ℕ). p.addr ∷ rest) are.1)))

peer_step : (n addr : ℕ) (said : RouterItem) (b : BgpProcess) → IsRouterItem said → IsWellFormedBgp b → IfOk (with_peer n addr said b) IsWellFormedBgp
peer_step n addr said b is whole =
    then_step (AreNeighborsOf b.neighbors) IsWellFormedBgp (at_neighbor n addr (set_neighbor n said) b.neighbors) _
    (changed_neighbor n addr (set_neighbor n said) (λ p. neighbor_step n said p is) b.neighbors whole.neighbors) (λ qs are. record {
      number = whole.number;
      base = whole.base;
      networks = whole.networks;
      networks_once = whole.networks_once;
      neighbors = are.0;
      neighbors_once = distinct_keys (λ (p : Neighbor). p.addr) (λ (a b : ℕ). a == b) qs b.neighbors are.1 whole.neighbors_once;
    })

-- ---- the process itself

process_step : (n : ℕ) (said : RouterItem) (b : BgpProcess) → IsRouterItem said → IsWellFormedBgp b → IfOk (set_process n said b) IsWellFormedBgp
unfolding set_process has_network has_neighbor
process_step n (item.Base base) b said is =
    stands_once IsWellFormedBgp n (is_some b.base) _
    (λ e. record {
      number = is.number;
      base = said;
      networks = is.networks;
      networks_once = is.networks_once;
      neighbors = is.neighbors;
      neighbors_once =
          is.neighbors_once;
    })
process_step n (item.Network net) b said is =
    stands_once IsWellFormedBgp n (has_network b.networks net.prefix) _ (λ none. record {
      number = is.number;
      base = is.base;
      networks = all_push IsWellFormedNetLine b.networks net is.networks said;
      networks_once = distinct_new same_net b.networks net is.networks_once none;
      neighbors = is.neighbors;
      neighbors_once = is.neighbors_once;
    })
process_step n (item.RemoteAs addr number) b said is =
    stands_once IsWellFormedBgp n (has_neighbor b.neighbors addr) _ (λ none. record {
      number = is.number;
      base = is.base;
      networks = is.networks;
      networks_once = is.networks_once;
      neighbors = all_push IsWellFormedNeighbor b.neighbors (new_neighbor n addr number) is.neighbors
          (record { addr = said.0; remote = said.1; list_in = tt; list_out = tt; map_in = tt; map_out = tt });
      neighbors_once = distinct_new same_neighbor b.neighbors (new_neighbor n addr number) is.neighbors_once none;
    })
process_step n _ b said is = is

pub bgp_step : (n : ℕ) (said : RouterItem) (b : BgpProcess) → IsRouterItem said → IsWellFormedBgp b → IfOk (set_bgp n said b) IsWellFormedBgp
unfolding set_bgp
bgp_step n said b item is = by (peer_of said)
  where
    by : (o : Option ℕ) → IfOk (set_bgp_for o n said b) IsWellFormedBgp
    by (Some addr) = peer_step n addr said b item is
    by None = process_step n said b item is
