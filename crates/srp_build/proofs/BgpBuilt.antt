-- The parts put together are the problem of a BGP network.
use Rattle.std.proofs.Common.{◌≡◌, ◌≢◌, ℕ, ◌<◌, Bool, true, List, map, length, Option, Some, None, refl, sym, ◌∙◌, ap, subst, arith}
use Rattle.std.specs.Prelude.{All, Contains, slice_get, slice_index_or}
use Rattle.std.specs.Option.{option_map_or}
use Rattle.std.proofs.lemmas.List.{length-map}
use Rattle.base_kit.specs.declared.act_graph.Edge.{Edge}
use Rattle.base_kit.specs.declared.protocol.Protocol.TheVariants.{Bgp as OverBgp}
use Rattle.base_kit.specs.Prefixes.{Prefix}
use Rattle.base_kit.proofs.Elements.{In, contains_in, in_contains, map_in, in_get, get_in}
use Rattle.by_key.proofs.KeyedItems.{all_from}
use Rattle.cfg_ast.specs.declared.bgp.BgpProcess.{BgpProcess}
use Rattle.cfg_ast.specs.declared.network.Network.{Network}
use Rattle.cfg_ast.specs.declared.network.Router.{Router}
use Rattle.cfg_ast.specs.meaning.Topology.{neighbors_of}
use Rattle.dd_core.specs.Sets.{Shown}
use Rattle.specialize.specs.Sessions.{AddsNothing}
use Rattle.srp_core.specs.declared.route.Route.{Route}
use Rattle.srp_core.specs.declared.route.Act.{Act}
use Rattle.srp_core.specs.declared.route.Act.TheVariants.{Cost}
use Rattle.srp_core.specs.Routes.{path_of, comms_of, IsRouteOf}
use Rattle.srp_core.specs.Acts.{ActsAlike, ImportsAlike, KeepsSets, IsActOf}
use Rattle.srp_core.specs.Problem.{Problem, count, number, initial, IsEdgeOf, IsProblem}
use Rattle.srp_core.specs.ProblemOf.{as_number_of, start_route, IsProblemOf}
use Rattle.srp_build.specs.declared.acts.BgpAct.{BgpAct}
use Rattle.srp_build.specs.declared.bgp_edges.BgpEdges.{BgpEdges}
use Rattle.srp_build.specs.declared.hops.Hop.{Hop}
use Rattle.srp_build.specs.LineMaps.{LineMaps}
use Rattle.srp_build.specs.ActOrder.{AreByFirstUse}
use Rattle.srp_build.specs.FirstActs.{IsActOfLines, HasFirstActs}
use Rattle.srp_build.specs.HopEdges.{edge_with}
use Rattle.srp_build.specs.Lines.{act_of_hop}
use Rattle.srp_build.proofs.BgpLinks.{HasProcess, line_process, some_number, number_is, hop_ends, read_map}
use Rattle.srp_build.proofs.BgpMarks.{there, only_lone, all_lone}
use Rattle.srp_build.proofs.BgpParts.{AreBgpParts, StartsAt, starts_at, made, written, HasEdge, IsLeft, same_ends, written_import, read_act, router_in, out_for, in_for, closed_to, stands, edge_for}
use Rattle.srp_build.proofs.BgpStarts.{start_is_bgp}
use Rattle.srp_build.proofs.FirstUse.{within_get}
use Rattle.srp_build.proofs.HopEdges.{few_edges}
use Rattle.srp_build.proofs.LinkPlaces.{direction_of, sorted_of, sorted_hop, one_hop}
use Rattle.srp_build.proofs.OwnNumbers.{HasAt, one_router}
use Rattle.srp_build.proofs.ImportMaps.{import_is_at, line_numbered, map_at_line, out_at_ends, sends_at_ends, in_at_ends}
use Rattle.srp_build.proofs.SortedEdges.{from, importer_in, exporter_in, ends_differ, ordered, one_of_link}

module _ (n : Network) (first p : Prefix) (init : List (Option Route)) (lone : List Bool) (maps : LineMaps) (shown : Shown) (found : BgpEdges)
    (parts : AreBgpParts n first p init lone maps shown found) where
  abbrev pub problem : Problem
  problem = made n first p init lone maps shown found parts

  abbrev Has : Hop → Edge → Type 0
  Has = HasEdge n first p init lone maps shown found parts

  abbrev Left : Hop → Type 0
  Left = IsLeft n first p init lone maps shown found parts

  ends_same : (hop : Hop) (edge : Edge) → Has hop edge → edge ≡ edge_with edge.act hop
  ends_same = same_ends n first p init lone maps shown found parts

  abbrev writes : BgpAct → Act
  writes = written n first p init lone maps shown found parts

  abbrev the_acts : List BgpAct
  the_acts = found.acts.acts.items

  total : count problem ≡ length n.routers
  total = length-map n.routers as_number_of

  edge_is : (edge : Edge) → Contains found.edges edge → IsEdgeOf problem edge
  edge_is edge inside =
      let f = from n Has Left ends_same found.edges parts.edges.each edge inside in
      let all = total in
      let lengths : length (map writes the_acts) ≡ length the_acts = length-map the_acts writes in
      let below = within_get the_acts edge.act f.has.act.act f.has.act.at in
      let a = importer_in n Has Left ends_same found.edges parts.edges.each edge inside in
      let b = exporter_in n Has Left ends_same found.edges parts.edges.each edge inside in
      record {
        importer_in = omega arith;
        exporter_in = omega arith;
        differ = ends_differ n Has Left ends_same found.edges parts.edges.each edge inside;
        act_in = omega arith;
      }

  -- ---- acts

  act_adds_nothing : (act : BgpAct) → In the_acts act → IsActOf OverBgp (writes act)
  act_adds_nothing act at =
      let place = in_get the_acts act at in
      let import = import_is_at n.routers maps act.first act.import (parts.edges.over place.0 act place.1) in
      let line = line_numbered first true maps.maps n.routers maps.ins parts.lines.ins act.first.importer act.first.importer_item act.import.into import.into
      in
      let nothing = parts.add_nothing n line.router line.line parts.bgp.nothing_added
      (router_in n first p init lone maps shown found parts act.first.importer line.router line.at)
      (contains_in (neighbors_of line.router) line.line (get_in (neighbors_of line.router) act.first.importer_item line.line line.line_at)) first in
      subst AddsNothing (sym (map_at_line first n.routers true act.first.importer act.first.importer_item line.router line.line line.at line.line_at)) nothing

  act_fits : (act : Act) → In (map writes the_acts) act → IsActOf OverBgp act
  act_fits act at = let m = map_in writes the_acts act at in subst (λ (a : Act). IsActOf OverBgp a) m.2 (act_adds_nothing m.0 m.1)

  imports_alike : (x y : BgpAct) → ActsAlike (writes x) (writes y) → ImportsAlike (writes x) (writes y)
  imports_alike x y alike = alike

  acts_differ : (i j : ℕ) → i < length (map writes the_acts) → j < length (map writes the_acts) →
      ActsAlike (slice_index_or (map writes the_acts) i (Cost 0)) (slice_index_or (map writes the_acts) j (Cost 0)) → i ≡ j
  acts_differ i j i_in j_in alike =
      let lengths : length (map writes the_acts) ≡ length the_acts = length-map the_acts writes in
      let a = there the_acts i (omega arith) in
      let b = there the_acts j (omega arith) in
      let first_is = read_act n first p init lone maps shown found parts i a.0 a.1 in
      let second_is = read_act n first p init lone maps shown found parts j b.0 b.1 in
      let both : ActsAlike (writes a.0) (writes b.0) =
      subst (λ (x : Act). ActsAlike x (writes b.0)) first_is
      (subst (λ (y : Act). ActsAlike (slice_index_or (map writes the_acts) i (Cost 0)) y) second_is alike) in
      parts.edges.right.acts.differ i j a.0 b.0 a.1 b.1 (record {
        same = λ set ascending.
            sym (written_import n first p init lone maps shown found parts i a.0 a.1 set) ∙ (imports_alike a.0 b.0 both).same set ascending
            ∙ written_import n first p init lone maps shown found parts j b.0 b.1 set;
      })

  -- ---- starts and numbers

  start_at : (u : ℕ) (r : Route) → initial problem u ≡ Some r → StartsAt p n.routers u r
  start_at u r h = starts_at p n.routers u r (sym (ap (λ (l : List (Option Route)). slice_index_or l u None) parts.starts) ∙ h)

  start_is : (u : ℕ) (r : Route) (h : initial problem u ≡ Some r) → (let s : StartsAt p n.routers u r = start_at u r h in In n.routers s.router)
  start_is u r h = let s = start_at u r h in get_in n.routers u s.router s.at

  number_at : (u : ℕ) (router : Router) → slice_get n.routers u ≡ Some router → number problem u ≡ as_number_of router
  number_at u router at = read_map as_number_of n.routers u router 0 at

  numbered : (u : ℕ) (router : Router) → slice_get n.routers u ≡ Some router → HasProcess router → number problem u ≢ 0
  numbered u router at has e = some_number n parts.bgp router (get_in n.routers u router at) has (sym (number_at u router at) ∙ e)

  importer_numbered : (edge : Edge) → Contains found.edges edge → number problem edge.importer ≢ 0
  importer_numbered edge inside =
      let f = from n Has Left ends_same found.edges parts.edges.each edge inside in
      let ends = hop_ends n parts.bgp f.hop f.of in
      subst (λ (k : ℕ). number problem k ≢ 0) (sym (ap (λ (e : Edge). e.importer) f.same))
      (numbered f.hop.importer ends.importer ends.importer_at (line_process ends.importer f.hop.importer_item ends.importer_line ends.importer_line_at))

  exporter_numbered : (edge : Edge) → Contains found.edges edge → number problem edge.exporter ≢ 0
  exporter_numbered edge inside =
      let f = from n Has Left ends_same found.edges parts.edges.each edge inside in
      let ends = hop_ends n parts.bgp f.hop f.of in
      subst (λ (k : ℕ). number problem k ≢ 0) (sym (ap (λ (e : Edge). e.exporter) f.same))
      (numbered f.hop.exporter ends.exporter ends.exporter_at (line_process ends.exporter f.hop.exporter_item ends.exporter_line ends.exporter_line_at))

  process_of : (u : ℕ) (router : Router) (o : Option BgpProcess) → slice_get n.routers u ≡ Some router → router.bgp ≡ o →
      option_map_or (λ (process : BgpProcess). process.number) o 0 ≢ 0 → (process : BgpProcess) × HasAt n.routers u process
  process_of u router None at is some = absurd (some refl)
  process_of u router (Some process) at is some = (process, record { router = router; at = at; is = is })

  distinct : (u v : ℕ) → u < count problem → v < count problem → number problem u ≡ number problem v → number problem u ≢ 0 → u ≡ v
  distinct u v u_in v_in same some =
      let all = total in
      let a = there n.routers u (omega arith) in
      let b = there n.routers v (omega arith) in
      let is_a = number_at u a.0 a.1 in
      let is_b = number_at v b.0 b.1 in
      let x = process_of u a.0 a.0.bgp a.1 refl (λ e. some (is_a ∙ e)) in
      let y = process_of v b.0 b.0.bgp b.1 refl (λ e. some (same ∙ is_b ∙ e)) in
      let at_x : x.1.router ≡ a.0 = (let both = sym x.1.at ∙ a.1 in cc) in
      let at_y : y.1.router ≡ b.0 = (let both = sym y.1.at ∙ b.1 in cc) in
      let num_x : as_number_of a.0 ≡ x.0.number = number_is a.0.bgp x.0 (ap (λ (r : Router). r.bgp) (sym at_x) ∙ x.1.is) in
      let num_y : as_number_of b.0 ≡ y.0.number = number_is b.0.bgp y.0 (ap (λ (r : Router). r.bgp) (sym at_y) ∙ y.1.is) in
      one_router n parts.bgp.own_numbers u v x.0 y.0 x.1 y.1 (sym num_x ∙ sym is_a ∙ same ∙ is_b ∙ num_y)

  pub rules : All KeepsSets (map writes the_acts) → IsProblem problem
  rules keeps = record {
    tables = record {
      few_routers = let all = total in let few = parts.bgp.few_routers in omega arith;
      few_edges = let a = few_edges Has Left (sorted_of n) found.edges parts.edges.each in let few = parts.few in omega arith;
      names = length-map n.routers (λ (router : Router). router.name) ∙ sym total;
      init = ap (λ (l : List (Option Route)). length l) parts.starts ∙ length-map n.routers (start_route p) ∙ sym total;
      lone = ap (λ (l : List Bool). length l) parts.marks.read ∙ length-map parts.marks.marks (λ m. m.lone) ∙ parts.marks.are.total ∙ sym total;
    };
    edges = record {
      inside = edge_is;
      ordered = ordered n Has Left ends_same found.edges parts.edges.each;
      one_of_link = one_of_link n Has Left ends_same found.edges parts.edges.each;
    };
    acts = record { fit = all_from (IsActOf OverBgp) (map writes the_acts) act_fits; keep = keeps; differ = acts_differ };
    starts = record {
      routes = λ u r h. (let s = start_at u r h in let is = (start_is_bgp n parts.bgp s.router (start_is u r h) p r s.is).is in
          subst (λ (x : Route). IsRouteOf OverBgp x) (sym is) tt);
      paths = λ u r h. (let s = start_at u r h in ap path_of (start_is_bgp n parts.bgp s.router (start_is u r h) p r s.is).is);
      bare = λ u r h. (let s = start_at u r h in ap comms_of (start_is_bgp n parts.bgp s.router (start_is u r h) p r s.is).is);
      unoriginated = λ e edge inside. (
          let f = from n Has Left ends_same found.edges parts.edges.each edge inside in
          ap (λ (x : Edge). slice_index_or init x.importer None) f.same ∙ closed_to n first p init lone maps shown found parts f.hop.importer f.has.open_to);
    };
    numbers = λ e. record {
      originators = λ u r h. (let s = start_at u r h in numbered u s.router s.at (start_is_bgp n parts.bgp s.router (start_is u r h) p r s.is).has);
      importers = importer_numbered;
      exporters = exporter_numbered;
      distinct = distinct;
    };
    marks = record {
      only = λ u inside h. only_lone n first p init lone maps shown found parts u (let all = total in omega arith) h;
      all = λ u inside h. all_lone n first p init lone maps shown found parts u (let all = total in omega arith) h;
    };
  }

  pub problem_is : IsProblem problem → IsProblemOf n p problem
  problem_is kept = record {
    rules = kept;
    protocol = parts.bgp.protocol;
    names = refl;
    numbers = refl;
    init = parts.starts;
    edges_stand = λ edge inside. (let f = from n Has Left ends_same found.edges parts.edges.each edge inside in
        (direction_of f.hop, stands n first p init lone maps shown found parts f.hop edge f.has f.of));
    edges_all = λ d is carries. edge_for n first p init lone maps shown found parts d is carries;
  }

  -- ---- the order of the acts

  pub acts_in_order : AreByFirstUse found.edges (length (map writes the_acts))
  acts_in_order = subst (λ (k : ℕ). AreByFirstUse found.edges k) (sym (length-map the_acts writes)) parts.edges.in_order

  pub first_acts : HasFirstActs n p problem
  first_acts = record {
    each = λ place edge at is_first. (
        let inside = contains_in found.edges edge (get_in found.edges place edge at) in
        let f = from n Has Left ends_same found.edges parts.edges.each edge inside in
        let act = parts.edges.first place edge at is_first in
        let own = sorted_hop n act.act.first (in_contains (sorted_of n) act.act.first (parts.edges.within edge.act act.act act.at)) in
        let one : act.act.first ≡ f.hop = one_hop n act.act.first f.hop own f.of
        (sym (ap (λ (e : Edge). e.importer) act.same) ∙ ap (λ (e : Edge). e.importer) f.same)
        (sym (ap (λ (e : Edge). e.link) act.same) ∙ ap (λ (e : Edge). e.link) f.same) in
        let ends = hop_ends n parts.bgp f.hop f.of in
        record {
          d = direction_of f.hop;
          stands = stands n first p init lone maps shown found parts f.hop edge f.has f.of;
          act = subst (λ (a : Act). IsActOfLines n p (direction_of f.hop) a) (sym (read_act n first p init lone maps shown found parts edge.act act.act act.at))
              (subst (λ (h : Hop). IsActOfLines n p (direction_of f.hop) (act_of_hop first n.routers h)) (sym one) (record {
                ends = ends;
                out_is = out_at_ends n first f.hop ends ∙ out_for n first p init lone maps shown found parts f.hop ends;
                sends_is = sends_at_ends n f.hop ends;
                into_is = in_at_ends n first f.hop ends ∙ in_for n first p init lone maps shown found parts f.hop ends;
              }));
        });
  }
