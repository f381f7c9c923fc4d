-- What the lines of a stanza give, one after the other: an interface, a BGP process (RFC 4271) or an
-- OSPF process (RFC 2328), in the style of IOS.
use Rattle.std.specs.Prelude.{ℕ, Bool, true, false, ◌&&◌, List, [], ◌∷◌, ◌++◌, ◌==◌, if◌then◌else◌, Option, Some, None, Result, Ok, Err, bytes_eq, is_some}
use Rattle.std.specs.List.{list_any}
use Rattle.base_kit.specs.Prefixes.{Prefix, same_prefix}
use Rattle.cfg_ast.specs.declared.interface.Interface.{Interface}
use Rattle.cfg_ast.specs.declared.bgp.Base.{Base}
use Rattle.cfg_ast.specs.declared.bgp.NetLine.{NetLine}
use Rattle.cfg_ast.specs.declared.bgp.Neighbor.{Neighbor}
use Rattle.cfg_ast.specs.declared.bgp.BgpProcess.{BgpProcess}
use Rattle.cfg_ast.specs.declared.ospf.AreaLine.{AreaLine}
use Rattle.cfg_ast.specs.declared.ospf.OspfProcess.{OspfProcess}
use Rattle.cfg_ast.specs.declared.items.RouterItem.{RouterItem}
use Rattle.cfg_ast.specs.declared.items.RouterItem.TheVariants as item
use Rattle.cfg_ast.specs.declared.refusal.FormFault.{FormFault}
use Rattle.cfg_ast.specs.declared.refusal.FormFault.TheVariants as form_fault
use Rattle.cfg_ast.specs.declared.refusal.Kind.TheVariants as kind
use Rattle.cfg_ast.specs.declared.refusal.ReadRefusal.{ReadRefusal}
use Rattle.cfg_ast.specs.declared.refusal.ReadRefusal.TheVariants as refusal
use Rattle.cfg_ast.specs.text.Steps.{◌>>=◌}

-- the fault of a line, with its number
abbrev pub refusal_of : ℕ → FormFault → ReadRefusal
refusal_of n form_fault.UnknownLine = refusal.At n kind.UnknownLine
refusal_of n form_fault.Unsupported = refusal.At n kind.Unsupported
refusal_of n form_fault.BadForm = refusal.At n kind.BadForm
refusal_of n form_fault.WellKnown = refusal.At n kind.WellKnown
refusal_of n form_fault.Memory = refusal.Memory

-- what a line says, or its fault with its number
abbrev pub said_at : {X : Type 0} → ℕ → Result X FormFault → Result X ReadRefusal
said_at n (Ok x) = Ok x
said_at n (Err fault) = Err (refusal_of n fault)

-- a value that may stand once
abbrev pub once : {X : Type 0} → ℕ → Bool → X → Result X ReadRefusal
once n is_given x = if is_given then Err (refusal.At n kind.Repeated) else Ok x

-- ---- an interface

unfoldable pub set_interface : ℕ → RouterItem → Interface → Result Interface ReadRefusal
set_interface n (item.IpAddress address) i = once n (is_some i.address) (record i { address = Some address })
set_interface n (item.Cost cost) i = once n (is_some i.cost) (record i { cost = Some cost })
set_interface n item.Shutdown i = Ok (record i { shut = true })
set_interface n _ i = Ok i

-- ---- a BGP process

-- some `network` line has the prefix
unfoldable pub has_network : List NetLine → Prefix → Bool
has_network nets prefix = list_any (λ (net : NetLine). same_prefix net.prefix prefix) nets

-- some `remote-as` line has the address
unfoldable pub has_neighbor : List Neighbor → ℕ → Bool
has_neighbor peers addr = list_any (λ (p : Neighbor). p.addr == addr) peers

-- a neighbour with only its `remote-as` line so far
abbrev pub new_neighbor : ℕ → ℕ → ℕ → Neighbor
new_neighbor n addr remote = record {
  addr = addr;
  remote = remote;
  line = n;
  shut = false;
  sends = false;
  list_in = None;
  list_out = None;
  map_in = None;
  map_out = None;
}

-- what a further line says of a neighbour: a list may stand once in each direction, and so may a map
unfoldable pub set_neighbor : ℕ → RouterItem → Neighbor → Result Neighbor ReadRefusal
set_neighbor n (item.PeerShut _) p = Ok (record p { shut = true })
set_neighbor n (item.PeerSends _) p = Ok (record p { sends = true })
set_neighbor n (item.PeerList _ list true) p = once n (is_some p.list_in) (record p { list_in = Some list })
set_neighbor n (item.PeerList _ list false) p = once n (is_some p.list_out) (record p { list_out = Some list })
set_neighbor n (item.PeerMap _ map true) p = once n (is_some p.map_in) (record p { map_in = Some map })
set_neighbor n (item.PeerMap _ map false) p = once n (is_some p.map_out) (record p { map_out = Some map })
set_neighbor n _ p = Ok p

-- a change of the neighbour of this address, which must have its `remote-as` line
unfoldable pub at_neighbor : ℕ → ℕ → (Neighbor → Result Neighbor ReadRefusal) → List Neighbor → Result (List Neighbor) ReadRefusal
at_neighbor n addr change [] = Err (refusal.At n kind.Misplaced)
at_neighbor n addr change (p ∷ peers) =
    if p.addr == addr then change p >>= (λ (q : Neighbor). Ok (q ∷ peers))
    else at_neighbor n addr change peers >>= (λ (qs : List Neighbor). Ok (p ∷ qs))

abbrev pub with_peer : ℕ → ℕ → RouterItem → BgpProcess → Result BgpProcess ReadRefusal
with_peer n addr said b = at_neighbor n addr (set_neighbor n said) b.neighbors >>= (λ (peers : List Neighbor). Ok (record b { neighbors = peers }))

-- the neighbour of which a line other than its `remote-as` line says something
abbrev pub peer_of : RouterItem → Option ℕ
peer_of (item.PeerShut addr) = Some addr
peer_of (item.PeerSends addr) = Some addr
peer_of (item.PeerList addr _ _) = Some addr
peer_of (item.PeerMap addr _ _) = Some addr
peer_of _ = None

-- what a line says of the process itself
unfoldable pub set_process : ℕ → RouterItem → BgpProcess → Result BgpProcess ReadRefusal
set_process n (item.Base base) b = once n (is_some b.base) (record b { base = Some base })
set_process n (item.Network net) b = once n (has_network b.networks net.prefix) (record b { networks = b.networks ++ net ∷ [] })
set_process n (item.RemoteAs addr remote) b =
    once n (has_neighbor b.neighbors addr) (record b { neighbors = b.neighbors ++ new_neighbor n addr remote ∷ [] })
set_process n _ b = Ok b

abbrev pub set_bgp_for : Option ℕ → ℕ → RouterItem → BgpProcess → Result BgpProcess ReadRefusal
set_bgp_for (Some addr) n said b = with_peer n addr said b
set_bgp_for None n said b = set_process n said b

unfoldable pub set_bgp : ℕ → RouterItem → BgpProcess → Result BgpProcess ReadRefusal
set_bgp n said b = set_bgp_for (peer_of said) n said b

-- ---- an OSPF process

-- a name is listed once
unfoldable pub with_text : List (List ℕ) → List ℕ → List (List ℕ)
with_text names name = if list_any (bytes_eq name) names then names else names ++ name ∷ []

abbrev pub same_area_line : AreaLine → AreaLine → Bool
same_area_line a b = (a.addr == b.addr) && (a.wild == b.wild) && (a.area == b.area)

-- a `network` line that says the same as an earlier one adds nothing
unfoldable pub with_area : List AreaLine → AreaLine → List AreaLine
with_area areas area = if list_any (same_area_line area) areas then areas else areas ++ area ∷ []

unfoldable pub set_ospf : RouterItem → OspfProcess → OspfProcess
set_ospf (item.Area area) o = record o { areas = with_area o.areas area }
set_ospf item.PassiveDefault o = record o { passive_default = true }
set_ospf (item.Passive name) o = record o { passive = with_text o.passive name }
set_ospf (item.NotPassive name) o = record o { not_passive = with_text o.not_passive name }
set_ospf _ o = o
