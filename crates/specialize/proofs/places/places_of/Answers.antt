use Rattle.std.proofs.Common.{subst}
use Rattle.cfg_ast.specs.declared.policy.CommunityList.{CommunityList}
use Rattle.cfg_ast.specs.declared.policy.PrefixList.{PrefixList}
use Rattle.cfg_ast.specs.declared.policy.RouteMap.{RouteMap}
use Rattle.numbered_names.specs.NamePlaces.{ArePlacesOf}
use Rattle.specialize.proofs.places.places_of.Goals as goal

pub returns : goal.returns
returns c = record {
  prefix_lists = subst (ArePlacesOf (λ (list : PrefixList). list.name) c.in_ok-prefix_lists.prefix_lists) c.as_slice.ensures c.in_ok-prefix_lists.ensures;
  community_lists =
      subst (ArePlacesOf (λ (list : CommunityList). list.name) c.in_ok-community_lists.community_lists) c.as_slice-2.ensures c.in_ok-community_lists.ensures;
  route_maps = subst (ArePlacesOf (λ (map : RouteMap). map.name) c.in_ok-route_maps.route_maps) c.as_slice-3.ensures c.in_ok-route_maps.ensures;
}
