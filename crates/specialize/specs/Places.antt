-- The places of a router's lists and maps by their names.
use Rattle.cfg_ast.specs.declared.network.Router.{Router}
use Rattle.cfg_ast.specs.declared.policy.CommunityList.{CommunityList}
use Rattle.cfg_ast.specs.declared.policy.PrefixList.{PrefixList}
use Rattle.cfg_ast.specs.declared.policy.RouteMap.{RouteMap}
use Rattle.numbered_names.specs.NamePlaces.{ArePlacesOf}
use Rattle.specialize.specs.declared.places.Places.{Places}

-- each name has the place of the first list, or of the first map, that the router has under it
pub record ArePlacesOfRouter (router : Router) (places : Places) : Type 0 where
  pub prefix_lists : ArePlacesOf (λ (list : PrefixList). list.name) places.prefix_lists router.prefix_lists
  pub community_lists : ArePlacesOf (λ (list : CommunityList). list.name) places.community_lists router.community_lists
  pub route_maps : ArePlacesOf (λ (map : RouteMap). map.name) places.route_maps router.route_maps
