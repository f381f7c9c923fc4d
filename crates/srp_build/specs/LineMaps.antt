-- The maps of all neighbour lines of a network, by numbers.
use Rattle.std.specs.Prelude.{◌≡◌, ℕ, true, false, List, length, map, Some, slice_get, slice_index_or}
use Rattle.base_kit.specs.Prefixes.{Prefix}
use Rattle.cfg_ast.specs.declared.network.Router.{Router}
use Rattle.route_maps.specs.declared.plain.Plain.{Plain}
use Rattle.srp_build.specs.declared.policy_maps.PolicyMaps.{PolicyMaps}
use Rattle.srp_build.specs.declared.policies.LinePolicies.{LinePolicies}
use Rattle.srp_build.specs.declared.lines.LinePlace.{LinePlace}
use Rattle.srp_build.specs.declared.imports.ImportByPolicies.{ImportByPolicies}
use Rattle.srp_build.specs.declared.imports.ImportByMaps.{ImportByMaps}
use Rattle.srp_build.specs.LinePolicies.{map_of_place}
use Rattle.srp_build.specs.Plains.{IsNumberOf, IsMapOfPlace, HaveNumbers}

-- each map once, and the numbers of those of each line, outbound and inbound, router by router
pub record LineMaps : Type 0 where
  pub maps : List Plain
  pub outs : List (List ℕ)
  pub ins : List (List ℕ)

-- the numbers are those of the maps of the lines, and all maps are those of places
pub record AreLineMaps (p : Prefix) (routers : List Router) (maps : LineMaps) : Type 0 where
  pub outs : HaveNumbers p false maps.maps routers maps.outs
  pub ins : HaveNumbers p true maps.maps routers maps.ins
  pub made : (number : ℕ) (map : Plain) → slice_get maps.maps number ≡ Some map → IsMapOfPlace p routers map

-- the numbers are those of the maps of policies, whose first lines stand at these places
pub record AreMapsOfPolicies (p : Prefix) (routers : List Router) (firsts : List LinePlace) (maps : List Plain) (numbers : List ℕ) : Type 0 where
  pub total : length numbers ≡ length firsts
  pub each : (place number : ℕ) (first : LinePlace) → slice_get firsts place ≡ Some first → slice_get numbers place ≡ Some number →
      IsNumberOf maps number (map_of_place p routers first)
  pub made : (number : ℕ) (map : Plain) → slice_get maps number ≡ Some map → IsMapOfPlace p routers map

-- the number of the map of a policy
abbrev pub map_number_at : List ℕ → ℕ → ℕ
map_number_at numbers policy = slice_index_or numbers policy 0

-- an import by the numbers of its maps, from that by the numbers of its policies
abbrev pub with_maps : List ℕ → ImportByPolicies → ImportByMaps
with_maps numbers import = record { out = map_number_at numbers import.out; sends = import.sends; into = map_number_at numbers import.into }

-- the maps of all lines, from those of their policies
abbrev pub line_maps : LinePolicies → PolicyMaps → LineMaps
line_maps policies maps = record {
  maps = maps.maps.items;
  outs = map (map (map_number_at maps.numbers.items)) policies.outs;
  ins = map (map (map_number_at maps.numbers.items)) policies.ins;
}
