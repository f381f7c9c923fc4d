-- That a network is well formed is a proposition: any two proofs of it are equal.
use Rattle.std.proofs.Common.{ℕ, Bool, true, false, List, [], ◌∷◌, Option, Some, None}
use Rattle.std.specs.List.{AllByRecursion-prop, IsDistinct-prop}
use Rattle.std.specs.Option.{MatchOption-prop}
use Rattle.std.proofs.Props.{props}
use Rattle.base_kit.specs.Prefixes.{Prefix}
use Rattle.base_kit.specs.Sets.{AllAbove, IsAscending}
use Rattle.cfg_ast.specs.declared.network.Network.{Network}
use Rattle.cfg_ast.specs.declared.network.Router.{Router}
use Rattle.cfg_ast.specs.declared.interface.Interface.{Interface}
use Rattle.cfg_ast.specs.declared.bgp.NetLine.{NetLine}
use Rattle.cfg_ast.specs.declared.bgp.Neighbor.{Neighbor}
use Rattle.cfg_ast.specs.declared.bgp.BgpProcess.{BgpProcess}
use Rattle.cfg_ast.specs.declared.ospf.OspfProcess.{OspfProcess}
use Rattle.cfg_ast.specs.declared.policy.PrefixEntry.{PrefixEntry}
use Rattle.cfg_ast.specs.declared.policy.PrefixList.{PrefixList}
use Rattle.cfg_ast.specs.declared.policy.CommunityList.{CommunityList}
use Rattle.cfg_ast.specs.declared.policy.NameLine.{NameLine}
use Rattle.cfg_ast.specs.declared.policy.Prepend.{Prepend}
use Rattle.cfg_ast.specs.declared.policy.Change.{Change}
use Rattle.cfg_ast.specs.declared.policy.Change.TheVariants.{Clear, Replace, Append}
use Rattle.cfg_ast.specs.declared.policy.MapEntry.{MapEntry}
use Rattle.cfg_ast.specs.declared.policy.RouteMap.{RouteMap}
use Rattle.cfg_ast.specs.printing.WellFormed.{IsListName, IsPrefix, IsCommunitySet, IsWellFormedInterface, IsWellFormedNetLine, IsWellFormedNeighbor, IsWellFormedBgp, IsWellFormedOspf, AreBounds, IsWellFormedPrefixEntry, IsWellFormedPrefixList, IsWellFormedCommunityList, IsWellFormedNameLine, IsMarkRight, IsWellFormedChange, IsWellFormedPrepend, IsWellFormedMapEntry, IsWellFormedRouteMap, IsWellFormedRouter, IsWellFormed}

above_prop : (n : ℕ) (ks : List ℕ) → IsProp (AllAbove n ks)
above_prop n [] = hlevel props
above_prop n (k ∷ ks) = hlevel (props, above_prop n ks)

pub ascending_prop : (ks : List ℕ) → IsProp (IsAscending ks)
ascending_prop [] = hlevel props
ascending_prop (k ∷ ks) = hlevel (props, above_prop k ks, ascending_prop ks)

list_name_prop : (name : List ℕ) → IsProp (IsListName name)
list_name_prop name = hlevel (props, AllByRecursion-prop)

prefix_prop : (p : Prefix) → IsProp (IsPrefix p)
prefix_prop p = hlevel props

communities_prop : (comms : List ℕ) → IsProp (IsCommunitySet comms)
communities_prop comms = hlevel (props, AllByRecursion-prop, ascending_prop)

interface_prop : (i : Interface) → IsProp (IsWellFormedInterface i)
interface_prop i = hlevel (props, MatchOption-prop)

net_prop : (net : NetLine) → IsProp (IsWellFormedNetLine net)
net_prop net = hlevel (props, prefix_prop)

neighbor_prop : (p : Neighbor) → IsProp (IsWellFormedNeighbor p)
neighbor_prop p = hlevel (props, MatchOption-prop, list_name_prop)

bgp_prop : (b : BgpProcess) → IsProp (IsWellFormedBgp b)
bgp_prop b = hlevel (props, MatchOption-prop, AllByRecursion-prop, IsDistinct-prop, net_prop, neighbor_prop)

ospf_prop : (o : OspfProcess) → IsProp (IsWellFormedOspf o)
ospf_prop o = hlevel (props, AllByRecursion-prop, IsDistinct-prop)

bounds_prop : (len : ℕ) (ge le : Option ℕ) → IsProp (AreBounds len ge le)
bounds_prop len None None = hlevel props
bounds_prop len (Some ge) None = hlevel props
bounds_prop len None (Some le) = hlevel props
bounds_prop len (Some ge) (Some le) = hlevel props

prefix_entry_prop : (e : PrefixEntry) → IsProp (IsWellFormedPrefixEntry e)
prefix_entry_prop e = hlevel (props, prefix_prop, bounds_prop e.prefix.len e.ge e.le)

prefix_list_prop : (l : PrefixList) → IsProp (IsWellFormedPrefixList l)
prefix_list_prop l = hlevel (props, AllByRecursion-prop, list_name_prop, prefix_entry_prop, ascending_prop)

community_list_prop : (l : CommunityList) → IsProp (IsWellFormedCommunityList l)
community_list_prop l = hlevel (props, AllByRecursion-prop, list_name_prop, communities_prop)

name_line_prop : (l : NameLine) → IsProp (IsWellFormedNameLine l)
name_line_prop l = hlevel (props, AllByRecursion-prop, IsDistinct-prop, list_name_prop)

mark_prop : (o : Option NameLine) (exact : Bool) → IsProp (IsMarkRight o exact)
mark_prop None exact = hlevel props
mark_prop (Some l) true = hlevel props
mark_prop (Some l) false = hlevel props

change_prop : (change : Change) → IsProp (IsWellFormedChange change)
change_prop Clear = hlevel props
change_prop (Replace comms) = communities_prop comms
change_prop (Append comms) = communities_prop comms

prepend_prop : (p : Prepend) → IsProp (IsWellFormedPrepend p)
prepend_prop p = hlevel (props, AllByRecursion-prop)

map_entry_prop : (e : MapEntry) → IsProp (IsWellFormedMapEntry e)
map_entry_prop e = hlevel (props, MatchOption-prop, name_line_prop, mark_prop e.comms e.exact, change_prop, list_name_prop, prepend_prop)

route_map_prop : (m : RouteMap) → IsProp (IsWellFormedRouteMap m)
route_map_prop m = hlevel (props, AllByRecursion-prop, list_name_prop, map_entry_prop, ascending_prop)

router_prop : (r : Router) → IsProp (IsWellFormedRouter r)
router_prop r = hlevel (
  props,
  AllByRecursion-prop,
  IsDistinct-prop,
  MatchOption-prop,
  interface_prop,
  bgp_prop,
  ospf_prop,
  prefix_list_prop,
  community_list_prop,
  route_map_prop,
)

pub IsWellFormed-prop : (network : Network) → IsProp (IsWellFormed network)
IsWellFormed-prop network = hlevel (props, AllByRecursion-prop, router_prop)
