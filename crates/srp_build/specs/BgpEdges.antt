-- The edges of BGP sessions: a direction has one where the importer does not originate and accepts some
-- set of communities.
use Rattle.std.specs.Prelude.{◌≡◌, ◌⊎◌, ℕ, ◌<◌, Bool, true, false, List, [], ◌∷◌, ◌++◌, is_some, length, Option, Some, None, Contains, slice_get, slice_index_or}
use Rattle.std.specs.Option.{option_map, option_and_then}
use Rattle.base_kit.specs.declared.act_graph.Edge.{Edge}
use Rattle.cfg_ast.specs.declared.network.Router.{Router}
use Rattle.dd_core.specs.Sets.{Shown}
use Rattle.policy_dd.specs.Imports.{AcceptsNone}
use Rattle.srp_core.specs.declared.route.Route.{Route}
use Rattle.srp_build.specs.declared.acts.BgpAct.{BgpAct}
use Rattle.srp_build.specs.declared.bgp_edges.BgpEdges.{BgpEdges}
use Rattle.srp_build.specs.declared.bgp_edges.LastImport.{LastImport}
use Rattle.srp_build.specs.declared.hops.Hop.{Hop}
use Rattle.srp_build.specs.declared.policy_maps.PolicyMaps.{PolicyMaps}
use Rattle.srp_build.specs.LineMaps.{LineMaps, map_number_at, with_maps}
use Rattle.srp_build.specs.declared.imports.ImportByPolicies.{ImportByPolicies}
use Rattle.srp_build.specs.declared.imports.ImportByMaps.{ImportByMaps}
use Rattle.srp_build.specs.ActOrder.{AreByFirstUse}
use Rattle.srp_build.specs.BgpActs.{IsNewAct}
use Rattle.srp_build.specs.FirstActs.{IsFirstWith}
use Rattle.srp_build.specs.HopEdges.{edge_with, AreEdgesOf}
use Rattle.srp_build.specs.Lines.{sends_at}
use Rattle.srp_build.specs.Plains.{number_at, import_over}
use Rattle.srp_build.specs.MetImports.{IsActOfImport, IsActOver, AreRight}

-- the router has an initial route
abbrev pub has_initial : List (Option Route) → ℕ → Bool
has_initial init router = is_some (slice_index_or init router None)

-- the numbers of both maps of an import are places of maps
pub record IsImportInside (maps : PolicyMaps) (import : ImportByPolicies) : Type 0 where
  pub out : map_number_at maps.numbers.items import.out < length maps.maps.items
  pub into : map_number_at maps.numbers.items import.into < length maps.maps.items

abbrev pub AreImportsInside : PolicyMaps → List ImportByPolicies → Type 0
AreImportsInside maps imports = (place : ℕ) (import : ImportByPolicies) → slice_get imports place ≡ Some import → IsImportInside maps import

-- the import of a direction, by the numbers of the maps of the lines at both ends
abbrev pub import_at : List Router → LineMaps → Hop → Option ImportByMaps
import_at routers maps hop = option_and_then (λ (out : ℕ).
    option_map (λ (into : ℕ). record { out = out; sends = sends_at routers hop.exporter hop.exporter_item; into = into })
    (number_at maps.ins hop.importer hop.importer_item)) (number_at maps.outs hop.exporter hop.exporter_item)

-- the import is that of the direction, by the numbers of policies
pub record IsImportOf (routers : List Router) (lines : LineMaps) (maps : PolicyMaps) (hop : Hop) (import : ImportByPolicies) : Type 0 where
  pub maps_are : maps.maps.items ≡ lines.maps
  pub is : import_at routers lines hop ≡ Some (with_maps maps.numbers.items import)

-- the act is that of the import
abbrev pub IsLastImport : PolicyMaps → List BgpAct → LastImport → Type 0
IsLastImport maps acts last = IsActOfImport maps.maps.items acts (with_maps maps.numbers.items last.import) last.act

-- the importer has an initial route, or no lines stand at the ends, or nothing is accepted
pub data IsLeftOut (routers : List Router) (init : List (Option Route)) (maps : LineMaps) (hop : Hop) : Type 0 where
  started : has_initial init hop.importer ≡ true → IsLeftOut routers init maps hop
  unjoined : import_at routers maps hop ≡ None → IsLeftOut routers init maps hop
  denied : (import : ImportByMaps) → import_at routers maps hop ≡ Some import → AcceptsNone (import_over maps.maps import) → IsLeftOut routers init maps hop

-- the edge is that of the direction, and its act imports as the lines there
pub record IsEdgeOfSession (routers : List Router) (init : List (Option Route)) (maps : LineMaps) (acts : List BgpAct) (hop : Hop) (edge : Edge) : Type 0 where
  pub same : edge ≡ edge_with edge.act hop
  pub open_to : has_initial init hop.importer ≡ false
  pub import : ImportByMaps
  pub import_is : import_at routers maps hop ≡ Some import
  pub act : IsActOver maps.maps acts import edge.act

-- the direction was left out
pub record Skips (routers : List Router) (init : List (Option Route)) (maps : LineMaps) (old new : BgpEdges) (hop : Hop) : Type 0 where
  pub left : IsLeftOut routers init maps hop
  pub acts : new.acts.acts.items ≡ old.acts.acts.items
  pub edges : new.edges ≡ old.edges

-- the direction got an edge, and its act came unless it was there
pub record TakesDirection (routers : List Router) (init : List (Option Route)) (maps : LineMaps) (old new : BgpEdges) (hop : Hop) : Type 0 where
  pub number : ℕ
  pub open_to : has_initial init hop.importer ≡ false
  pub import : ImportByMaps
  pub import_is : import_at routers maps hop ≡ Some import
  pub act : IsActOver maps.maps new.acts.acts.items import number
  pub came : (new.acts.acts.items ≡ old.acts.acts.items) ⊎ IsNewAct old.acts.acts.items new.acts.acts.items hop import number
  pub edges : new.edges ≡ old.edges ++ edge_with number hop ∷ []

abbrev pub TakesHop : List Router → List (Option Route) → LineMaps → BgpEdges → BgpEdges → Hop → Type 0
TakesHop routers init maps old new hop = Skips routers init maps old new hop ⊎ TakesDirection routers init maps old new hop

-- the act of the edge is first in the direction of the edge
pub record IsFirstWithAct (acts : List BgpAct) (edge : Edge) : Type 0 where
  pub act : BgpAct
  pub at : slice_get acts edge.act ≡ Some act
  pub same : edge ≡ edge_with edge.act act.first

-- The edges of directions, in order, and their acts: each is that of the import in the direction of the
-- first edge that has it.
pub record AreEdgesOfSessions (shown : Shown) (routers : List Router) (init : List (Option Route)) (maps : LineMaps) (hops : List Hop) (found : BgpEdges) : Type
    0 where
  pub right : AreRight shown maps.maps found.acts found.imports
  pub over : (number : ℕ) (act : BgpAct) → slice_get found.acts.acts.items number ≡ Some act → import_at routers maps act.first ≡ Some act.import
  pub within : (number : ℕ) (act : BgpAct) → slice_get found.acts.acts.items number ≡ Some act → Contains hops act.first
  pub each : AreEdgesOf (IsEdgeOfSession routers init maps found.acts.acts.items) (IsLeftOut routers init maps) hops found.edges
  pub in_order : AreByFirstUse found.edges (length found.acts.acts.items)
  pub first : (place : ℕ) (edge : Edge) → slice_get found.edges place ≡ Some edge → IsFirstWith found.edges place edge.act →
      IsFirstWithAct found.acts.acts.items edge
