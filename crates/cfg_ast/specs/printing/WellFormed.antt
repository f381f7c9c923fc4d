-- Networks as the grammar of running configurations has them: names are names, numbers lie in their
-- ranges, what may stand once stands once, and entries ascend. Each fact is one that a line's form or
-- the reading of lines ensures. Nothing here depends on line numbers, or on how many lines there are.
use Rattle.std.specs.Prelude.{◌≡◌, ◌≤◌, ℕ, Bool, true, false, List, length, map, ◌==◌, Option, Some, None, IfSome, bytes_eq, codes}
use Rattle.std.specs.List.{AllByRecursion, IsDistinct}
use Rattle.base_kit.specs.Prefixes.{Prefix, same_prefix}
use Rattle.base_kit.specs.Sets.{IsAscending}
use Rattle.cfg_ast.specs.meaning.Addresses.{Address}
use Rattle.cfg_ast.specs.declared.network.Named.{Named}
use Rattle.cfg_ast.specs.declared.network.Network.{Network}
use Rattle.cfg_ast.specs.declared.network.Router.{Router}
use Rattle.cfg_ast.specs.declared.interface.Interface.{Interface}
use Rattle.cfg_ast.specs.declared.bgp.Base.{Base}
use Rattle.cfg_ast.specs.declared.bgp.NetLine.{NetLine}
use Rattle.cfg_ast.specs.declared.bgp.Neighbor.{Neighbor}
use Rattle.cfg_ast.specs.declared.bgp.BgpProcess.{BgpProcess}
use Rattle.cfg_ast.specs.declared.ospf.AreaLine.{AreaLine}
use Rattle.cfg_ast.specs.declared.ospf.OspfProcess.{OspfProcess}
use Rattle.cfg_ast.specs.declared.policy.PrefixEntry.{PrefixEntry}
use Rattle.cfg_ast.specs.declared.policy.PrefixList.{PrefixList}
use Rattle.cfg_ast.specs.declared.policy.CommunityLine.{CommunityLine}
use Rattle.cfg_ast.specs.declared.policy.CommunityList.{CommunityList}
use Rattle.cfg_ast.specs.declared.policy.NameLine.{NameLine}
use Rattle.cfg_ast.specs.declared.policy.Prepend.{Prepend}
use Rattle.cfg_ast.specs.declared.policy.Change.{Change}
use Rattle.cfg_ast.specs.declared.policy.Change.TheVariants.{Clear, Replace, Append}
use Rattle.cfg_ast.specs.declared.policy.MapEntry.{MapEntry}
use Rattle.cfg_ast.specs.declared.policy.RouteMap.{RouteMap}
use Rattle.cfg_ast.specs.text.Words.{is_router_name, is_interface_name, is_list_name, bits_behind}
use Rattle.cfg_ast.specs.text.PolicyForms.{has_mark}
use Rattle.cfg_ast.specs.text.Stanzas.{same_area_line}

-- ---- words and numbers

-- both ends included
abbrev pub IsBetween : ℕ → ℕ → ℕ → Type 0
IsBetween low high n = (low ≤ n) × (n ≤ high)

-- a number or an address of 32 bits
abbrev pub IsNumber : ℕ → Type 0
IsNumber n = n ≤ 4294967295

-- a name of a list or a route map: 1 to 63 bytes, each of which prints and is no blank
pub record IsListName (name : List ℕ) : Type 0 where
  pub long : is_list_name name ≡ true
  pub bytes : AllByRecursion (IsBetween 33 126) name

-- a prefix without bits behind its length
pub record IsPrefix (p : Prefix) : Type 0 where
  pub addr : IsNumber p.addr
  pub len : p.len ≤ 32
  pub exact : bits_behind p.len p.addr ≡ 0

-- 1 to 32 communities in their order, none of them set aside
pub record IsCommunitySet (comms : List ℕ) : Type 0 where
  pub count : IsBetween 1 32 (length comms)
  pub each : AllByRecursion (IsBetween 1 4294901759) comms
  pub ascending : IsAscending comms

-- ---- interfaces

pub record IsWellFormedAddress (a : Address) : Type 0 where
  pub addr : IsNumber a.addr
  pub len : IsBetween 1 32 a.len

pub record IsWellFormedInterface (i : Interface) : Type 0 where
  pub name : is_interface_name i.name ≡ true
  pub address : IfSome i.address IsWellFormedAddress
  pub cost : IfSome i.cost (IsBetween 1 65535)

abbrev pub same_interface : Interface → Interface → Bool
same_interface i j = bytes_eq i.name j.name

-- ---- BGP

pub record IsWellFormedNetLine (net : NetLine) : Type 0 where
  pub prefix : IsPrefix net.prefix
  pub some : 1 ≤ net.prefix.len

abbrev pub same_net : NetLine → NetLine → Bool
same_net a b = same_prefix a.prefix b.prefix

abbrev pub IsWellFormedNamed : Named → Type 0
IsWellFormedNamed named = IsListName named.name

pub record IsWellFormedNeighbor (p : Neighbor) : Type 0 where
  pub addr : IsNumber p.addr
  pub remote : IsBetween 1 4294967295 p.remote
  pub list_in : IfSome p.list_in IsWellFormedNamed
  pub list_out : IfSome p.list_out IsWellFormedNamed
  pub map_in : IfSome p.map_in IsWellFormedNamed
  pub map_out : IfSome p.map_out IsWellFormedNamed

abbrev pub same_neighbor : Neighbor → Neighbor → Bool
same_neighbor p q = p.addr == q.addr

abbrev pub IsWellFormedBase : Base → Type 0
IsWellFormedBase base = IsNumber base.value

pub record IsWellFormedBgp (b : BgpProcess) : Type 0 where
  pub number : IsBetween 1 4294967295 b.number
  pub base : IfSome b.base IsWellFormedBase
  pub networks : AllByRecursion IsWellFormedNetLine b.networks
  pub networks_once : IsDistinct same_net b.networks
  pub neighbors : AllByRecursion IsWellFormedNeighbor b.neighbors
  pub neighbors_once : IsDistinct same_neighbor b.neighbors

-- ---- OSPF

pub record IsWellFormedArea (a : AreaLine) : Type 0 where
  pub addr : IsNumber a.addr
  pub wild : IsNumber a.wild
  pub area : IsNumber a.area

abbrev pub IsInterfaceName : List ℕ → Type 0
IsInterfaceName name = is_interface_name name ≡ true

pub record IsWellFormedOspf (o : OspfProcess) : Type 0 where
  pub number : IsBetween 1 65535 o.number
  pub passive : AllByRecursion IsInterfaceName o.passive
  pub passive_once : IsDistinct bytes_eq o.passive
  pub not_passive : AllByRecursion IsInterfaceName o.not_passive
  pub not_passive_once : IsDistinct bytes_eq o.not_passive
  pub areas : AllByRecursion IsWellFormedArea o.areas
  pub areas_once : IsDistinct same_area_line o.areas

-- ---- prefix lists

-- the bounds of an entry lie between its prefix's length and 32, the first not above the second
abbrev pub AreBounds : ℕ → Option ℕ → Option ℕ → Type 0
AreBounds len None None = Unit {0}
AreBounds len (Some ge) None = IsBetween len 32 ge
AreBounds len None (Some le) = IsBetween len 32 le
AreBounds len (Some ge) (Some le) = IsBetween len 32 ge × IsBetween ge 32 le

pub record IsWellFormedPrefixEntry (e : PrefixEntry) : Type 0 where
  pub seq : IsBetween 1 4294967295 e.seq
  pub prefix : IsPrefix e.prefix
  pub bounds : AreBounds e.prefix.len e.ge e.le

abbrev pub prefix_seqs : List PrefixEntry → List ℕ
prefix_seqs entries = map (λ (e : PrefixEntry). e.seq) entries

pub record IsWellFormedPrefixList (l : PrefixList) : Type 0 where
  pub name : IsListName l.name
  pub some : 1 ≤ length l.entries
  pub entries : AllByRecursion IsWellFormedPrefixEntry l.entries
  pub ascending : IsAscending (prefix_seqs l.entries)

abbrev pub same_prefix_list : PrefixList → PrefixList → Bool
same_prefix_list l m = bytes_eq l.name m.name

-- ---- community lists

abbrev pub IsWellFormedCommunityLine : CommunityLine → Type 0
IsWellFormedCommunityLine line = IsCommunitySet line.comms

pub record IsWellFormedCommunityList (l : CommunityList) : Type 0 where
  pub name : IsListName l.name
  pub some : 1 ≤ length l.lines
  pub lines : AllByRecursion IsWellFormedCommunityLine l.lines

abbrev pub same_community_list : CommunityList → CommunityList → Bool
same_community_list l m = bytes_eq l.name m.name

-- ---- route maps

-- 1 to 32 names, each once
pub record IsWellFormedNameLine (l : NameLine) : Type 0 where
  pub count : IsBetween 1 32 (length l.names)
  pub each : AllByRecursion IsListName l.names
  pub once : IsDistinct bytes_eq l.names

-- only names of community lists are matched exactly, and the last of names that are not is no mark
abbrev pub IsMarkRight : Option NameLine → Bool → Type 0
IsMarkRight None exact = exact ≡ false
IsMarkRight (Some l) true = Unit {0}
IsMarkRight (Some l) false = has_mark (codes "exact-match") l.names ≡ false

abbrev pub IsWellFormedChange : Change → Type 0
IsWellFormedChange Clear = Unit {0}
IsWellFormedChange (Replace comms) = IsCommunitySet comms
IsWellFormedChange (Append comms) = IsCommunitySet comms

-- 1 to 10 AS numbers, which may repeat
pub record IsWellFormedPrepend (p : Prepend) : Type 0 where
  pub count : IsBetween 1 10 (length p.numbers)
  pub each : AllByRecursion (IsBetween 1 4294967295) p.numbers

pub record IsWellFormedMapEntry (e : MapEntry) : Type 0 where
  pub seq : e.seq ≤ 65535
  pub prefixes : IfSome e.prefixes IsWellFormedNameLine
  pub comms : IfSome e.comms IsWellFormedNameLine
  pub exact : IsMarkRight e.comms e.exact
  pub lp : IfSome e.lp IsNumber
  pub change : IfSome e.change IsWellFormedChange
  pub delete : IfSome e.delete IsWellFormedNamed
  pub prepend : IfSome e.prepend IsWellFormedPrepend

abbrev pub map_seqs : List MapEntry → List ℕ
map_seqs entries = map (λ (e : MapEntry). e.seq) entries

pub record IsWellFormedRouteMap (m : RouteMap) : Type 0 where
  pub name : IsListName m.name
  pub some : 1 ≤ length m.entries
  pub entries : AllByRecursion IsWellFormedMapEntry m.entries
  pub ascending : IsAscending (map_seqs m.entries)

abbrev pub same_route_map : RouteMap → RouteMap → Bool
same_route_map l m = bytes_eq l.name m.name

-- ---- routers

pub record IsWellFormedRouter (r : Router) : Type 0 where
  pub name : is_router_name r.name ≡ true
  pub interfaces : AllByRecursion IsWellFormedInterface r.interfaces
  pub interfaces_once : IsDistinct same_interface r.interfaces
  pub bgp : IfSome r.bgp IsWellFormedBgp
  pub ospf : IfSome r.ospf IsWellFormedOspf
  pub prefix_lists : AllByRecursion IsWellFormedPrefixList r.prefix_lists
  pub prefix_lists_once : IsDistinct same_prefix_list r.prefix_lists
  pub community_lists : AllByRecursion IsWellFormedCommunityList r.community_lists
  pub community_lists_once : IsDistinct same_community_list r.community_lists
  pub route_maps : AllByRecursion IsWellFormedRouteMap r.route_maps
  pub route_maps_once : IsDistinct same_route_map r.route_maps

pub record IsWellFormed (network : Network) : Type 0 where
  pub routers : AllByRecursion IsWellFormedRouter network.routers
