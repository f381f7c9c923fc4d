-- The lists and maps of a router, as lists under names.
use Rattle.cfg_ast.specs.declared.policy.PrefixEntry.{PrefixEntry}
use Rattle.cfg_ast.specs.declared.policy.PrefixList.{PrefixList}
use Rattle.cfg_ast.specs.declared.policy.CommunityLine.{CommunityLine}
use Rattle.cfg_ast.specs.declared.policy.CommunityList.{CommunityList}
use Rattle.cfg_ast.specs.declared.policy.MapEntry.{MapEntry}
use Rattle.cfg_ast.specs.declared.policy.RouteMap.{RouteMap}
use Rattle.named_lists.specs.declared.named.NamedList.{NamedList}

abbrev pub prefix_list_of : NamedList PrefixEntry → PrefixList
prefix_list_of l = record { name = l.name; entries = l.entries }

abbrev pub route_map_of : NamedList MapEntry → RouteMap
route_map_of l = record { name = l.name; entries = l.entries }

abbrev pub community_list_of : NamedList CommunityLine → CommunityList
community_list_of l = record { name = l.name; lines = l.entries }
