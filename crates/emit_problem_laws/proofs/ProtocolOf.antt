-- The network of the groups runs the protocol of the network read.
use Rattle.std.proofs.Common.{◌≡◌, List, [], ◌∷◌, inl, inr, Option, Some, None, refl, sym, ap, subst}
use Rattle.std.specs.Prelude.{slice_get}
use Rattle.std.specs.Option.{option_map}
use Rattle.base_kit.specs.declared.protocol.Protocol.{Protocol}
use Rattle.base_kit.specs.declared.protocol.Protocol.TheVariants.{Bgp as OverBgp, Ospf as OverOspf}
use Rattle.base_kit.proofs.Elements.{In, flat_map_in, in_flat_map}
use Rattle.cfg_ast.specs.declared.bgp.BgpProcess.{BgpProcess}
use Rattle.cfg_ast.specs.declared.ospf.OspfProcess.{OspfProcess}
use Rattle.cfg_ast.specs.declared.network.Network.{Network}
use Rattle.cfg_ast.specs.declared.network.Router.{Router}
use Rattle.cfg_ast.specs.meaning.RouterFaults.{ProtocolLine, of_bgp, of_ospf, lines_in_order, protocol_lines_of, protocol_lines, protocol_of}

-- lines of one protocol, of which there is one
first_like : (q : Protocol) (lines : List ProtocolLine) (line : ProtocolLine) → In lines line → ((l : ProtocolLine) → In lines l → l.protocol ≡ q) →
    option_map (λ (l : ProtocolLine). l.protocol) (slice_get lines 0) ≡ Some q
first_like q [] line at all = absurd at
first_like q (l ∷ lines) line at all = ap (λ (x : Protocol). Some x) (all l (inl refl))

of_router : (n : Network) (q : Protocol) (r : Router) (line : ProtocolLine) → In n.routers r → In (protocol_lines_of r) line →
    ((s : Router) → In n.routers s → (l : ProtocolLine) → In (protocol_lines_of s) l → l.protocol ≡ q) → protocol_of n ≡ Some q
of_router n q r line at line_at all =
    first_like q (protocol_lines n) line (in_flat_map protocol_lines_of n.routers r line at line_at)
    (λ l among. let from = flat_map_in protocol_lines_of n.routers l among in all from.0 from.1 l from.2)

bgp_lines : (b : Option BgpProcess) (o : Option OspfProcess) → o ≡ None → (l : ProtocolLine) → In (lines_in_order b o) l → l.protocol ≡ OverBgp
bgp_lines None None none l at = absurd at
bgp_lines (Some b) None none l (inl same) = sym (ap (λ (x : ProtocolLine). x.protocol) same)
bgp_lines (Some b) None none l (inr at) = absurd at
bgp_lines b (Some o) none l at = absurd cc

ospf_lines : (b : Option BgpProcess) (o : Option OspfProcess) → b ≡ None → (l : ProtocolLine) → In (lines_in_order b o) l → l.protocol ≡ OverOspf
ospf_lines None None none l at = absurd at
ospf_lines None (Some o) none l (inl same) = sym (ap (λ (x : ProtocolLine). x.protocol) same)
ospf_lines None (Some o) none l (inr at) = absurd at
ospf_lines (Some b) o none l at = absurd cc

-- a network of which a router runs BGP, and none OSPF
pub runs_bgp_alone : (n : Network) (r : Router) (process : BgpProcess) → In n.routers r → r.bgp ≡ Some process →
    ((s : Router) → In n.routers s → s.ospf ≡ None) → protocol_of n ≡ Some OverBgp
runs_bgp_alone n r process at runs none =
    of_router n OverBgp r (of_bgp process) at
    (subst (λ (o : Option OspfProcess). In (lines_in_order r.bgp o) (of_bgp process)) (sym (none r at))
    (subst (λ (b : Option BgpProcess). In (lines_in_order b None) (of_bgp process)) (sym runs) (inl refl)))
    (λ s in_network l line. bgp_lines s.bgp s.ospf (none s in_network) l line)

pub runs_ospf_alone : (n : Network) (r : Router) (process : OspfProcess) → In n.routers r → r.ospf ≡ Some process →
    ((s : Router) → In n.routers s → s.bgp ≡ None) → protocol_of n ≡ Some OverOspf
runs_ospf_alone n r process at runs none =
    of_router n OverOspf r (of_ospf process) at
    (subst (λ (b : Option BgpProcess). In (lines_in_order b r.ospf) (of_ospf process)) (sym (none r at))
    (subst (λ (o : Option OspfProcess). In (lines_in_order None o) (of_ospf process)) (sym runs) (inl refl)))
    (λ s in_network l line. ospf_lines s.bgp s.ospf (none s in_network) l line)
