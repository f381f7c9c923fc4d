-- Networks without their line numbers: each line number is set to 0.
use Rattle.std.specs.Prelude.{map}
use Rattle.std.specs.Option.{option_map}
use Rattle.cfg_ast.specs.meaning.Addresses.{Address}
use Rattle.cfg_ast.specs.text.TextLines.{TextLine}
use Rattle.cfg_ast.specs.declared.network.Network.{Network}
use Rattle.cfg_ast.specs.declared.network.Router.{Router}
use Rattle.cfg_ast.specs.declared.network.Named.{Named}
use Rattle.cfg_ast.specs.declared.interface.Interface.{Interface}
use Rattle.cfg_ast.specs.declared.bgp.Base.{Base}
use Rattle.cfg_ast.specs.declared.bgp.BgpProcess.{BgpProcess}
use Rattle.cfg_ast.specs.declared.bgp.NetLine.{NetLine}
use Rattle.cfg_ast.specs.declared.bgp.Neighbor.{Neighbor}
use Rattle.cfg_ast.specs.declared.ospf.OspfProcess.{OspfProcess}
use Rattle.cfg_ast.specs.declared.ospf.AreaLine.{AreaLine}
use Rattle.cfg_ast.specs.declared.policy.PrefixList.{PrefixList}
use Rattle.cfg_ast.specs.declared.policy.PrefixEntry.{PrefixEntry}
use Rattle.cfg_ast.specs.declared.policy.CommunityList.{CommunityList}
use Rattle.cfg_ast.specs.declared.policy.CommunityLine.{CommunityLine}
use Rattle.cfg_ast.specs.declared.policy.NameLine.{NameLine}
use Rattle.cfg_ast.specs.declared.policy.Prepend.{Prepend}
use Rattle.cfg_ast.specs.declared.policy.RouteMap.{RouteMap}
use Rattle.cfg_ast.specs.declared.policy.MapEntry.{MapEntry}

-- ---- lines and names

abbrev pub bare_line : TextLine → TextLine
bare_line l = record l { number = 0 }

abbrev pub bare_named : Named → Named
bare_named named = record named { line = 0 }

-- ---- interfaces

abbrev pub bare_address : Address → Address
bare_address a = record a { line = 0 }

abbrev pub bare_interface : Interface → Interface
bare_interface i = record i { line = 0; address = option_map bare_address i.address }

-- ---- BGP

abbrev pub bare_base : Base → Base
bare_base base = record base { line = 0 }

abbrev pub bare_net : NetLine → NetLine
bare_net net = record net { line = 0 }

abbrev pub bare_neighbor : Neighbor → Neighbor
bare_neighbor p = record p {
  line = 0;
  list_in = option_map bare_named p.list_in;
  list_out = option_map bare_named p.list_out;
  map_in = option_map bare_named p.map_in;
  map_out = option_map bare_named p.map_out;
}

abbrev pub bare_bgp : BgpProcess → BgpProcess
bare_bgp b = record b {
  line = 0;
  base = option_map bare_base b.base;
  networks = map bare_net b.networks;
  neighbors = map bare_neighbor b.neighbors;
}

-- ---- OSPF

abbrev pub bare_area : AreaLine → AreaLine
bare_area a = record a { line = 0 }

abbrev pub bare_ospf : OspfProcess → OspfProcess
bare_ospf o = record o { line = 0; areas = map bare_area o.areas }

-- ---- lists

abbrev pub bare_prefix_entry : PrefixEntry → PrefixEntry
bare_prefix_entry e = record e { line = 0 }

abbrev pub bare_prefix_list : PrefixList → PrefixList
bare_prefix_list l = record l { entries = map bare_prefix_entry l.entries }

abbrev pub bare_community_line : CommunityLine → CommunityLine
bare_community_line c = record c { line = 0 }

abbrev pub bare_community_list : CommunityList → CommunityList
bare_community_list l = record l { lines = map bare_community_line l.lines }

-- ---- route maps

abbrev pub bare_name_line : NameLine → NameLine
bare_name_line l = record l { line = 0 }

abbrev pub bare_prepend : Prepend → Prepend
bare_prepend p = record p { line = 0 }

abbrev pub bare_map_entry : MapEntry → MapEntry
bare_map_entry e = record e {
  line = 0;
  prefixes = option_map bare_name_line e.prefixes;
  comms = option_map bare_name_line e.comms;
  change_line = 0;
  delete = option_map bare_named e.delete;
  prepend = option_map bare_prepend e.prepend;
}

abbrev pub bare_route_map : RouteMap → RouteMap
bare_route_map m = record m { entries = map bare_map_entry m.entries }

-- ---- networks

abbrev pub bare_router : Router → Router
bare_router r = record r {
  line = 0;
  interfaces = map bare_interface r.interfaces;
  bgp = option_map bare_bgp r.bgp;
  ospf = option_map bare_ospf r.ospf;
  prefix_lists = map bare_prefix_list r.prefix_lists;
  community_lists = map bare_community_list r.community_lists;
  route_maps = map bare_route_map r.route_maps;
}

-- the network without its line numbers
abbrev pub bare : Network → Network
bare network = record { routers = map bare_router network.routers }
