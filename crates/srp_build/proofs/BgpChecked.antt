-- A checked BGP network has what its problem depends on.
use Rattle.std.proofs.Common.{◌≡◌, ◌≤◌, Bool, true, false, cond, List, [], ◌∷◌, length, inl, inr, Option, Some, None, refl, arith}
use Rattle.std.specs.Prelude.{is_some, nat_lt}
use Rattle.base_kit.specs.declared.protocol.Protocol.{Protocol}
use Rattle.base_kit.specs.declared.protocol.Protocol.TheVariants as protocol
use Rattle.base_kit.proofs.Elements.{In, in_contains, in_flat_map}
use Rattle.cfg_ast.specs.declared.bgp.BgpProcess.{BgpProcess}
use Rattle.cfg_ast.specs.declared.network.Network.{Network}
use Rattle.cfg_ast.specs.declared.network.Router.{Router}
use Rattle.cfg_ast.specs.declared.ospf.OspfProcess.{OspfProcess}
use Rattle.cfg_ast.specs.meaning.RouterFaults.{ProtocolLine, of_bgp, of_ospf, lines_in_order, protocol_lines_of, protocol_lines, mixed_protocol_lines, protocol_of}
use Rattle.cfg_ast.specs.printing.WellFormed.{IsWellFormed}
use Rattle.cfg_check.specs.Faultless.{IsFaultless}
use Rattle.srp_build.specs.Bgp.{IsBgp}
use Rattle.srp_build.specs.Problem.{is_bgp as is_over_bgp}
use Rattle.srp_build.proofs.OspfChecked.{all_like_first, none_is}

ospf_line : (b : Option BgpProcess) (o : OspfProcess) → In (lines_in_order b (Some o)) (of_ospf o)
ospf_line None o = inl refl
ospf_line (Some b) o = either (nat_lt b.line o.line)
  where
    either : (first : Bool) → In (cond first (of_bgp b ∷ of_ospf o ∷ []) (of_ospf o ∷ of_bgp b ∷ [])) (of_ospf o)
    either true = inr (inl refl)
    either false = inl refl

with_ospf : (lines : List ProtocolLine) → ((l : ProtocolLine) → In lines l → l.protocol ≡ protocol.Bgp) →
    (bgp : Option BgpProcess) (ospf : Option OspfProcess) → ((l : ProtocolLine) → In (lines_in_order bgp ospf) l → In lines l) → is_some ospf ≡ false
with_ospf lines all bgp None inside = refl
with_ospf lines all bgp (Some o) inside = let e = all (of_ospf o) (inside (of_ospf o) (ospf_line bgp o)) in absurd cc

no_ospf : (n : Network) → protocol_of n ≡ Some protocol.Bgp → mixed_protocol_lines n ≡ [] → (router : Router) → In n.routers router →
    is_some router.ospf ≡ false
unfolding mixed_protocol_lines
no_ospf n first none router at = with_ospf (protocol_lines n) (all_like_first protocol.Bgp (protocol_lines n) first none) router.bgp router.ospf
    (λ l inside. in_flat_map protocol_lines_of n.routers router l at inside)

-- a BGP network without faults, as the grammar has it
pub is_bgp : (n : Network) → IsWellFormed n → IsFaultless n → length n.routers ≤ 4096 → protocol_of n ≡ Some protocol.Bgp → IsBgp n
is_bgp n form faultless few bgp = record {
  protocol = bgp;
  form = form;
  without_ospf = λ router has. none_is router.ospf (no_ospf n bgp faultless.mixed_protocols router (in_contains n.routers router has));
  few_routers = omega arith;
  own_numbers = faultless.shared_as;
  nothing_added = faultless.prepend_in;
}

-- the protocol where the directions are those of sessions
pub bgp_is : (o : Option Protocol) → is_over_bgp o ≡ true → o ≡ Some protocol.Bgp
bgp_is (Some protocol.Bgp) e = cc
bgp_is (Some protocol.Ospf) e = cc
bgp_is None e = cc
