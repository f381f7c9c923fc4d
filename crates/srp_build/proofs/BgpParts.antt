-- The edges and acts of a BGP network put together stand for its sessions.
use Rattle.std.proofs.Common.{◌≡◌, ℕ, zero, suc, ◌<◌, ◌^◌, Bool, true, false, List, [], ◌∷◌, map, length, Option, Some, None, is_some, refl, sym, ◌∙◌, ap, subst, inl, inr}
use Rattle.std.specs.Prelude.{Contains, slice_get, slice_index_or}
use Rattle.base_kit.specs.declared.act_graph.Edge.{Edge}
use Rattle.base_kit.specs.declared.protocol.Protocol.TheVariants.{Bgp as OverBgp}
use Rattle.base_kit.specs.Prefixes.{Prefix}
use Rattle.base_kit.proofs.Elements.{contains_in, get_in}
use Rattle.cfg_ast.specs.declared.bgp.Neighbor.{Neighbor}
use Rattle.cfg_ast.specs.declared.network.Network.{Network}
use Rattle.cfg_ast.specs.declared.network.Router.{Router}
use Rattle.cfg_ast.specs.meaning.PolicyFaults.{prepend_in_lines}
use Rattle.cfg_ast.specs.meaning.Topology.{links_of, neighbors_of}
use Rattle.cfg_ast.specs.printing.WellFormed.{IsWellFormedRouter}
use Rattle.dd_core.specs.Sets.{Shown}
use Rattle.route_maps.specs.Maps.{import_of}
use Rattle.route_maps.specs.Sessions.{session_import}
use Rattle.specialize.specs.OnePrefix.{plain_of}
use Rattle.specialize.specs.Sessions.{out_map, in_map, AddsNothing, ImportAsSession}
use Rattle.srp_core.specs.declared.route.Route.{Route}
use Rattle.srp_core.specs.declared.route.Act.{Act}
use Rattle.srp_core.specs.declared.route.Act.TheVariants.{Cost}
use Rattle.srp_core.specs.Acts.{import_by}
use Rattle.srp_core.specs.Problem.{Problem, act_of}
use Rattle.srp_core.specs.ProblemOf.{as_number_of, start_route, Direction, SessionEnds, IsDirection, CarriesRoutes, MeansLink, StandsFor}
use Rattle.srp_build.specs.declared.acts.BgpAct.{BgpAct}
use Rattle.srp_build.specs.declared.bgp_edges.BgpEdges.{BgpEdges}
use Rattle.srp_build.specs.declared.hops.Hop.{Hop}
use Rattle.srp_build.specs.declared.imports.ImportByMaps.{ImportByMaps}
use Rattle.srp_build.specs.Bgp.{IsBgp}
use Rattle.srp_build.specs.BgpEdges.{has_initial, import_at, IsLeftOut, started, unjoined, denied, IsEdgeOfSession, AreEdgesOfSessions}
use Rattle.srp_build.specs.HopEdges.{edge_with}
use Rattle.srp_build.specs.LineMaps.{LineMaps, AreLineMaps}
use Rattle.srp_build.specs.Lines.{act_of_hop}
use Rattle.srp_build.specs.Lone.{AreLone}
use Rattle.srp_build.specs.Plains.{import_over}
use Rattle.srp_build.proofs.BgpLinks.{hop_ends, well_formed, read_map}
use Rattle.srp_build.proofs.HopEdges.{hop_edge}
use Rattle.srp_build.proofs.LinkPlaces.{direction_of, hop_for, is_direction, sorted_of, sorted_hop, sorted_direction}
use Rattle.srp_build.proofs.OspfChecked.{none_is}
use Rattle.srp_build.proofs.ImportMaps.{has_import, import_at_hop, out_at_ends, sends_at_ends, in_at_ends}
use Rattle.srp_build.proofs.SortedHops.{IsHopOf}

-- the maps of both ends import what a session does
abbrev pub SessionsImport : Type 0
SessionsImport = (p : Prefix) (exporter importer : Router) (out into : Neighbor) → IsWellFormedRouter exporter → IsWellFormedRouter importer →
    ImportAsSession p exporter out importer into

-- in maps put no AS numbers before a path
abbrev pub InMapsAddNothing : Type 0
InMapsAddNothing = (network : Network) (router : Router) (line : Neighbor) → prepend_in_lines network ≡ [] → Contains network.routers router →
    Contains (neighbors_of router) line → (p : Prefix) → AddsNothing (in_map p router line)

-- The parts of the problem for a prefix, whose maps were written out for another prefix of its class.
pub record AreBgpParts (n : Network) (first p : Prefix) (init : List (Option Route)) (lone : List Bool) (maps : LineMaps) (shown : Shown)
    (found : BgpEdges) : Type 0 where
  pub bgp : IsBgp n
  pub sessions_import : SessionsImport
  pub add_nothing : InMapsAddNothing
  pub starts : init ≡ map (start_route p) n.routers
  pub lines : AreLineMaps first n.routers maps
  pub edges : AreEdgesOfSessions shown n.routers init maps (sorted_of n) found
  pub marks : AreLone shown found.acts.acts.items (length n.routers) found.edges lone
  pub alike : (router : Router) → Contains n.routers router → (name list : Option (List ℕ)) (inbound : Bool) →
      plain_of router name list first inbound ≡ plain_of router name list p inbound
  pub few : length (sorted_of n) < 2 ^ 32

-- an initial route stands at a router that has it
pub record StartsAt (p : Prefix) (routers : List Router) (place : ℕ) (route : Route) : Type 0 where
  pub router : Router
  pub at : slice_get routers place ≡ Some router
  pub is : start_route p router ≡ Some route

pub starts_at : (p : Prefix) (routers : List Router) (place : ℕ) (route : Route) → slice_index_or (map (start_route p) routers) place None ≡ Some route →
    StartsAt p routers place route
starts_at p [] place route h = absurd cc
starts_at p (router ∷ routers) zero route h = record { router = router; at = refl; is = h }
starts_at p (router ∷ routers) (suc place) route h = let r = starts_at p routers place route h in record { router = r.router; at = r.at; is = r.is }

module _ (n : Network) (first p : Prefix) (init : List (Option Route)) (lone : List Bool) (maps : LineMaps) (shown : Shown) (found : BgpEdges)
    (parts : AreBgpParts n first p init lone maps shown found) where
  abbrev pub acts : List BgpAct
  acts = found.acts.acts.items

  abbrev pub written : BgpAct → Act
  written act = act_of_hop first n.routers act.first

  abbrev pub made : Problem
  made = record {
    protocol = OverBgp;
    names = map (λ (router : Router). router.name) n.routers;
    numbers = map as_number_of n.routers;
    init = init;
    lone = lone;
    acts = map written acts;
    edges = found.edges;
  }

  abbrev pub HasEdge : Hop → Edge → Type 0
  HasEdge = IsEdgeOfSession n.routers init maps acts

  abbrev pub IsLeft : Hop → Type 0
  IsLeft = IsLeftOut n.routers init maps

  pub same_ends : (hop : Hop) (edge : Edge) → HasEdge hop edge → edge ≡ edge_with edge.act hop
  same_ends hop edge has = has.same

  -- ---- imports

  -- an act imports what its first direction does
  pub written_import : (number : ℕ) (act : BgpAct) → slice_get acts number ≡ Some act → (comms : List ℕ) →
      import_by (written act) comms ≡ import_over maps.maps act.import comms
  unfolding import_by
  written_import number act at comms = sym (import_at_hop n first maps parts.lines act.first act.import (parts.edges.over number act at) comms)

  pub read_act : (number : ℕ) (act : BgpAct) → slice_get acts number ≡ Some act → slice_index_or (map written acts) number (Cost 0) ≡ written act
  read_act number act at = read_map written acts number act (Cost 0) at

  pub edge_import : (edge : Edge) (act : BgpAct) → slice_get acts edge.act ≡ Some act → (comms : List ℕ) →
      import_by (act_of made edge) comms ≡ import_over maps.maps act.import comms
  edge_import edge act at comms = ap (λ (a : Act). import_by a comms) (read_act edge.act act at) ∙ written_import edge.act act at comms

  pub router_in : (place : ℕ) (router : Router) → slice_get n.routers place ≡ Some router → Contains n.routers router
  router_in place router at = contains_in n.routers router (get_in n.routers place router at)

  -- the maps of the ends for this prefix
  pub out_for : (hop : Hop) (ends : SessionEnds n (direction_of hop)) →
      out_map first ends.exporter ends.exporter_line ≡ out_map p ends.exporter ends.exporter_line
  out_for hop ends = parts.alike ends.exporter (router_in hop.exporter ends.exporter ends.exporter_at) _ _ false

  pub in_for : (hop : Hop) (ends : SessionEnds n (direction_of hop)) → in_map first ends.importer ends.importer_line ≡ in_map p ends.importer ends.importer_line
  in_for hop ends = parts.alike ends.importer (router_in hop.importer ends.importer ends.importer_at) _ _ true

  -- an import over numbers is what the lines at the ends import
  pub import_at_ends : (hop : Hop) (import : ImportByMaps) → import_at n.routers maps hop ≡ Some import → (ends : SessionEnds n (direction_of hop)) →
      (comms : List ℕ)
      → import_over maps.maps import comms ≡ session_import p ends.exporter ends.exporter_line ends.importer ends.importer_line comms
  import_at_ends hop import e ends comms =
      import_at_hop n first maps parts.lines hop import e comms
      ∙ (λ j. import_of ((out_at_ends n first hop ends ∙ out_for hop ends) j) (sends_at_ends n hop ends j) ((in_at_ends n first hop ends ∙ in_for hop ends) j)
      comms)
      ∙ parts.sessions_import p ends.exporter ends.importer ends.exporter_line ends.importer_line
      (well_formed n parts.bgp ends.exporter (get_in n.routers hop.exporter ends.exporter ends.exporter_at))
      (well_formed n parts.bgp ends.importer (get_in n.routers hop.importer ends.importer ends.importer_at)) comms

  pub start_there : (place : ℕ) (router : Router) → slice_get n.routers place ≡ Some router → slice_index_or init place None ≡ start_route p router
  start_there place router at = ap (λ (l : List (Option Route)). slice_index_or l place None) parts.starts
      ∙ read_map (start_route p) n.routers place router None at

  pub closed_to : (place : ℕ) → has_initial init place ≡ false → slice_index_or init place None ≡ None
  closed_to place open_to = none_is (slice_index_or init place None) open_to

  -- ---- edges

  carries : (hop : Hop) (edge : Edge) → HasEdge hop edge → SessionEnds n (direction_of hop) → CarriesRoutes n p (direction_of hop)
  carries hop edge has ends =
      let accept = parts.edges.right.acts.accept edge.act has.act.act has.act.at in
      record {
        ends = ends;
        unoriginated = sym (start_there hop.importer ends.importer ends.importer_at) ∙ closed_to hop.importer has.open_to;
        comms = accept.set;
        is_set = accept.ascending;
        imported = accept.import;
        accepted = sym (import_at_ends hop has.import has.import_is ends accept.set) ∙ has.act.one.same accept.set accept.ascending ∙ accept.is;
      }

  abbrev MeansAs : Hop → Act → Type 0
  MeansAs hop act = MeansLink n p (direction_of hop) act

  means_session : (hop : Hop) (edge : Edge) (has : HasEdge hop edge) → SessionEnds n (direction_of hop) → MeansAs hop (written has.act.act)
  unfolding import_by
  means_session hop edge has ends = record {
    ends = ends;
    same = λ comms ascending. written_import edge.act has.act.act has.act.at comms ∙ sym (has.act.one.same comms ascending)
        ∙ import_at_ends hop has.import has.import_is ends comms;
  }

  pub stands : (hop : Hop) (edge : Edge) → HasEdge hop edge → IsHopOf (links_of n) hop → StandsFor made n p edge (direction_of hop)
  stands hop edge has of =
      let ends = hop_ends n parts.bgp hop of in
      record {
        is_direction = is_direction n hop of;
        is_edge = carries hop edge has ends;
        link = ap (λ (e : Edge). e.link) has.same;
        importer = ap (λ (e : Edge). e.importer) has.same;
        exporter = ap (λ (e : Edge). e.exporter) has.same;
        means = subst (MeansAs hop) (sym (read_act edge.act has.act.act has.act.at)) (means_session hop edge has ends);
      }

  -- a direction that carries routes is not left out
  never_left : (d : Direction) → CarriesRoutes n p d → IsLeft (hop_for d) → ⊥
  never_left d carries (started open_to) =
      let none = start_there d.importer carries.ends.importer carries.ends.importer_at ∙ carries.unoriginated in
      let closed : has_initial init d.importer ≡ false = ap (λ (o : Option Route). is_some o) none in
      absurd cc
  never_left d carries (unjoined none) = has_import n first maps parts.lines (hop_for d) carries.ends none
  never_left d carries (denied import e nothing) =
      let none = nothing.none carries.comms carries.is_set in
      let some = import_at_ends (hop_for d) import e carries.ends carries.comms ∙ carries.accepted in
      absurd cc

  pub edge_for : (d : Direction) → IsDirection n d → CarriesRoutes n p d → (edge : Edge) × Contains found.edges edge × StandsFor made n p edge d
  edge_for d is carries =
      let at = sorted_direction n d is in
      elim (hop_edge HasEdge IsLeft (sorted_of n) found.edges parts.edges.each (hop_for d) at) [
        | inl has ↦ (has.0, contains_in found.edges has.0 has.1, stands (hop_for d) has.0 has.2 (sorted_hop n (hop_for d) at))
        | inr left ↦ absurd (never_left d carries left)
      ]
