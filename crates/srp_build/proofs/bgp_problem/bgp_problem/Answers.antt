-- Each call gets what it asks for, from the directions of the class to the maps, the edges and the lone routers. What is built
-- of their results is the problem of the class, by its definition.
use Rattle.std.proofs.Common.{◌≡◌, ◌≤◌, ◌<◌, ◌^◌, ◌∙◌, List, map, length, refl, sym, ap, subst}
use Rattle.std.specs.Prelude.{All}
use Rattle.base_kit.specs.declared.act_graph.Edge.{Edge}
use Rattle.base_kit.specs.Prefixes.{Prefix}
use Rattle.cfg_ast.specs.declared.network.Network.{Network}
use Rattle.cfg_ast.specs.declared.network.Router.{Router}
use Rattle.cfg_ast.specs.meaning.RouterFaults.{protocol_of}
use Rattle.specialize.specs.declared.places.Places.{Places}
use Rattle.srp_core.specs.ProblemOf.{as_number_of}
use Rattle.srp_build.specs.declared.acts.BgpAct.{BgpAct}
use Rattle.srp_build.specs.declared.hops.Hop.{Hop}
use Rattle.srp_build.specs.declared.policy_maps.PolicyMaps.{PolicyMaps}
use Rattle.srp_build.specs.declared.lines.LinePlace.{LinePlace}
use Rattle.srp_build.specs.declared.session_hops.SessionHops.{SessionHops}
use Rattle.srp_build.specs.Directions.{AreSessionHops, directions_of}
use Rattle.srp_build.specs.LinePolicies.{AreImportsOf}
use Rattle.srp_build.specs.LineMaps.{AreLineMaps, AreMapsOfPolicies, line_maps}
use Rattle.srp_build.specs.Lines.{act_of_hop}
use Rattle.srp_build.specs.ListPlaces.{HavePlaces}
use Rattle.srp_build.specs.Lone.{AreLone}
use Rattle.srp_build.specs.Starts.{starts_from}
use Rattle.srp_build.proofs.BgpCall.{IsCall, first_in, sorted_edges, importers_inside, acts_inside, rules_kept, is_built}
use Rattle.srp_build.proofs.BgpChecked.{is_bgp, bgp_is}
use Rattle.srp_build.proofs.ClassPrefixes.{has_prefix}
use Rattle.srp_build.proofs.PolicyMaps.{line_maps_are, inside_are}
use Rattle.srp_build.proofs.WithinMore.{maps_within}
use Rattle.srp_build.proofs.bgp_problem.bgp_problem.Goals as goal

imports_are : (n : Network) (found : SessionHops) → AreSessionHops n.routers (directions_of n) found
    → AreImportsOf n.routers found.policies found.hops.items found.imports.items
imports_are n found are = subst (λ (h : List Hop). AreImportsOf n.routers found.policies h found.imports.items) (sym are.hops_are) are.imports

lines_are : (n : Network) (p : Prefix) (routers : List Router) (firsts : List LinePlace) (found : SessionHops) (maps : PolicyMaps) → routers ≡ n.routers
    → firsts ≡ found.policies.firsts.items → AreSessionHops n.routers (directions_of n) found
    → AreMapsOfPolicies p routers firsts maps.maps.items maps.numbers.items → AreLineMaps p n.routers (line_maps found.policies maps)
lines_are n p routers firsts found maps routers_are firsts_are are of_policies =
    line_maps_are p n.routers found.policies maps are.policies
    (subst (λ (k : List LinePlace). AreMapsOfPolicies p n.routers k maps.maps.items maps.numbers.items) firsts_are
    (subst (λ (r : List Router). AreMapsOfPolicies p r firsts maps.maps.items maps.numbers.items) routers_are of_policies))

have_places : (n : Network) (routers : List Router) (places : List Places) (found : SessionHops) → routers ≡ n.routers → places ≡ found.places.items
    → AreSessionHops n.routers (directions_of n) found → HavePlaces routers places
have_places n routers places found routers_are places_are are =
    subst (λ (r : List Router). HavePlaces r places) (sym routers_are) (subst (λ (l : List Places). HavePlaces n.routers l) (sym places_are) are.places)

pub first_prefix-p-requires : goal.first_prefix-p-requires
first_prefix-p-requires c = has_prefix c.args.net.now.network c.args.class.now c.requires.class

pub policy_maps-requires : goal.policy_maps-requires
policy_maps-requires c =
    let n = c.args.net.now.network in
    let same = c.network.ensures.same in
    let routers_are = c.as_slice-routers.ensures ∙ ap (λ (m : Network). m.routers) same in
    have_places n c.as_slice-routers.result.now c.as_slice-places.result.now c.args.directions.now routers_are c.as_slice-places.ensures.value
    c.requires.directions.hops

pub written_acts-requires : goal.written_acts-requires
written_acts-requires c =
    let n = c.args.net.now.network in
    let same = c.network.ensures.same in
    let routers_are = c.as_slice-routers.ensures ∙ ap (λ (m : Network). m.routers) same in
    have_places n c.as_slice-routers.result.now c.as_slice-places.result.now c.args.directions.now routers_are c.as_slice-places.ensures.value
    c.requires.directions.hops

pub bgp_edges-requires-clause-total : goal.bgp_edges-requires-clause-total
bgp_edges-requires-clause-total c = (imports_are c.args.net.now.network c.args.directions.now c.requires.directions.hops).total

pub bgp_edges-requires-clause-few : goal.bgp_edges-requires-clause-few
bgp_edges-requires-clause-few c =
    subst (λ (h : List Hop). length h < 2 ^ 32) (sym c.requires.directions.hops.hops_are) c.requires.directions.few

pub bgp_edges-requires-clause-inside : goal.bgp_edges-requires-clause-inside
bgp_edges-requires-clause-inside c =
    let n = c.args.net.now.network in
    let found = c.args.directions.now in
    let same = c.network.ensures.same in
    let routers_are = c.as_slice-routers.ensures ∙ ap (λ (m : Network). m.routers) same in
    inside_are c.first_prefix-p.result n.routers found.policies c.in_ok-maps.maps found.hops.items found.imports.items
    (lines_are n c.first_prefix-p.result c.as_slice-routers.result.now c.deref.result.now found c.in_ok-maps.maps routers_are c.deref.ensures.value
    c.requires.directions.hops c.in_ok-maps.ensures)
    (imports_are n found c.requires.directions.hops)

pub bgp_edges-requires-clause-within : goal.bgp_edges-requires-clause-within
bgp_edges-requires-clause-within c =
    let n = c.args.net.now.network in
    let found = c.args.directions.now in
    let same = c.network.ensures.same in
    let routers_are = c.as_slice-routers.ensures ∙ ap (λ (m : Network). m.routers) same in
    maps_within c.maps_stay_within.ensures n c.first_prefix-p.result c.args.store.now.universe (line_maps found.policies c.in_ok-maps.maps) c.requires.known
    (lines_are n c.first_prefix-p.result c.as_slice-routers.result.now c.deref.result.now found c.in_ok-maps.maps routers_are c.deref.ensures.value
    c.requires.directions.hops c.in_ok-maps.ensures)

pub lone_of-requires-clause-importers : goal.lone_of-requires-clause-importers
lone_of-requires-clause-importers c =
    let n = c.args.net.now.network in
    let same = c.network.ensures.same in
    let routers_are = c.as_slice-routers.ensures ∙ ap (λ (m : Network). m.routers) same in
    let edges = sorted_edges n n.routers c.in_ok-init.init c.as_slice-2.result.now (line_maps c.args.directions.now.policies c.in_ok-maps.maps)
    c.bgp_edges.new.store c.args.directions.now.hops.items c.in_ok-found.found refl c.as_slice-2.ensures c.requires.directions.hops.hops_are
    (c.in_ok-found.ensures.edges n.routers (imports_are n c.args.directions.now c.requires.directions.hops)) in
    subst (λ (r : List Router). All (λ (e : Edge). e.importer < length r) c.as_slice-edges.result.now) (sym routers_are)
    (subst (λ (l : List Edge). All (λ (e : Edge). e.importer < length n.routers) l) (sym c.as_slice-edges.ensures)
    (importers_inside n c.bgp_edges.new.store c.in_ok-init.init (line_maps c.args.directions.now.policies c.in_ok-maps.maps) c.in_ok-found.found edges))

pub lone_of-requires-clause-acts : goal.lone_of-requires-clause-acts
lone_of-requires-clause-acts c =
    let n = c.args.net.now.network in
    let same = c.network.ensures.same in
    let routers_are = c.as_slice-routers.ensures ∙ ap (λ (m : Network). m.routers) same in
    let edges = sorted_edges n n.routers c.in_ok-init.init c.as_slice-2.result.now (line_maps c.args.directions.now.policies c.in_ok-maps.maps)
    c.bgp_edges.new.store c.args.directions.now.hops.items c.in_ok-found.found refl c.as_slice-2.ensures c.requires.directions.hops.hops_are
    (c.in_ok-found.ensures.edges n.routers (imports_are n c.args.directions.now c.requires.directions.hops)) in
    subst (λ (a : List BgpAct). All (λ (e : Edge). e.act < length a) c.as_slice-edges.result.now) (sym c.deref-2.ensures.value)
    (subst (λ (l : List Edge). All (λ (e : Edge). e.act < length c.in_ok-found.found.acts.acts.items) l) (sym c.as_slice-edges.ensures)
    (acts_inside n c.bgp_edges.new.store c.in_ok-init.init (line_maps c.args.directions.now.policies c.in_ok-maps.maps) c.in_ok-found.found edges))

pub new-problem-requires : goal.new-problem-requires
new-problem-requires c =
    let n = c.args.net.now.network in
    let same = c.network.ensures.same in
    let routers_are = c.as_slice-routers.ensures ∙ ap (λ (m : Network). m.routers) same in
    let form = c.given_is_well_formed.ensures n c.args.net.now.given in
    let few = subst (λ (m : Network). length m.routers ≤ 4096) same c.network.ensures.few_routers in
    let few_hops = c.requires.directions.few in
    let marks = subst (λ (a : List BgpAct). AreLone c.bgp_edges.new.store a (length c.as_slice-routers.result.now) c.as_slice-edges.result.now
    c.in_ok-lone.lone) c.deref-2.ensures.value c.in_ok-lone.ensures in
    let marks_of_edges = subst (λ (l : List Edge). AreLone c.bgp_edges.new.store c.in_ok-found.found.acts.acts.items (length c.as_slice-routers.result.now) l
    c.in_ok-lone.lone) c.as_slice-edges.ensures marks in
    let call : IsCall n c.args.class.now c.first_prefix-p.result c.in_ok-names.names c.in_ok-numbers.numbers c.in_ok-init.init c.in_ok-lone.lone
    c.in_ok-acts.acts (line_maps c.args.directions.now.policies c.in_ok-maps.maps) c.bgp_edges.new.store c.in_ok-found.found = record {
      bgp = is_bgp n form c.args.net.now.faultless few (bgp_is (protocol_of n) c.requires.directions.bgp);
      sessions_import = c.session_imports.ensures;
      add_nothing = c.in_maps_add_nothing.ensures;
      class_in = c.requires.class;
      first_in = first_in c.args.class.now c.first_prefix-p.result c.first_prefix-p.ensures;
      init_is = c.in_ok-init.ensures ∙ (λ j. starts_from 0 (c.as_slice.ensures j) (routers_are j));
      lines = lines_are n c.first_prefix-p.result c.as_slice-routers.result.now c.deref.result.now c.args.directions.now c.in_ok-maps.maps routers_are
          c.deref.ensures.value c.requires.directions.hops c.in_ok-maps.ensures;
      edges = sorted_edges n n.routers c.in_ok-init.init c.as_slice-2.result.now (line_maps c.args.directions.now.policies c.in_ok-maps.maps)
          c.bgp_edges.new.store c.args.directions.now.hops.items c.in_ok-found.found refl c.as_slice-2.ensures c.requires.directions.hops.hops_are
          (c.in_ok-found.ensures.edges n.routers (imports_are n c.args.directions.now c.requires.directions.hops));
      marks = subst (λ (r : List Router). AreLone c.bgp_edges.new.store c.in_ok-found.found.acts.acts.items (length r) c.in_ok-found.found.edges
          c.in_ok-lone.lone) routers_are marks_of_edges;
      names_are = c.in_ok-names.ensures ∙ ap (λ (r : List Router). map (λ (router : Router). router.name) r) routers_are;
      numbers_are = c.in_ok-numbers.ensures ∙ ap (λ (r : List Router). map as_number_of r) routers_are;
      acts_are = c.in_ok-acts.ensures ∙ (λ j. map (λ (act : BgpAct). act_of_hop c.first_prefix-p.result (routers_are j) act.first) (c.deref-3.ensures.value j));
    } in
    λ keeps. rules_kept n c.args.class.now c.first_prefix-p.result c.in_ok-names.names c.in_ok-numbers.numbers c.in_ok-init.init c.in_ok-lone.lone
    c.in_ok-acts.acts (line_maps c.args.directions.now.policies c.in_ok-maps.maps) c.bgp_edges.new.store c.in_ok-found.found call few_hops keeps

pub returns-clause-built : goal.returns-clause-built
returns-clause-built c =
    let n = c.args.net.now.network in
    let same = c.network.ensures.same in
    let routers_are = c.as_slice-routers.ensures ∙ ap (λ (m : Network). m.routers) same in
    let form = c.given_is_well_formed.ensures n c.args.net.now.given in
    let few = subst (λ (m : Network). length m.routers ≤ 4096) same c.network.ensures.few_routers in
    let few_hops = c.requires.directions.few in
    let marks = subst (λ (a : List BgpAct). AreLone c.bgp_edges.new.store a (length c.as_slice-routers.result.now) c.as_slice-edges.result.now
    c.in_ok-lone.lone) c.deref-2.ensures.value c.in_ok-lone.ensures in
    let marks_of_edges = subst (λ (l : List Edge). AreLone c.bgp_edges.new.store c.in_ok-found.found.acts.acts.items (length c.as_slice-routers.result.now) l
    c.in_ok-lone.lone) c.as_slice-edges.ensures marks in
    let call : IsCall n c.args.class.now c.first_prefix-p.result c.in_ok-names.names c.in_ok-numbers.numbers c.in_ok-init.init c.in_ok-lone.lone
    c.in_ok-acts.acts (line_maps c.args.directions.now.policies c.in_ok-maps.maps) c.bgp_edges.new.store c.in_ok-found.found = record {
      bgp = is_bgp n form c.args.net.now.faultless few (bgp_is (protocol_of n) c.requires.directions.bgp);
      sessions_import = c.session_imports.ensures;
      add_nothing = c.in_maps_add_nothing.ensures;
      class_in = c.requires.class;
      first_in = first_in c.args.class.now c.first_prefix-p.result c.first_prefix-p.ensures;
      init_is = c.in_ok-init.ensures ∙ (λ j. starts_from 0 (c.as_slice.ensures j) (routers_are j));
      lines = lines_are n c.first_prefix-p.result c.as_slice-routers.result.now c.deref.result.now c.args.directions.now c.in_ok-maps.maps routers_are
          c.deref.ensures.value c.requires.directions.hops c.in_ok-maps.ensures;
      edges = sorted_edges n n.routers c.in_ok-init.init c.as_slice-2.result.now (line_maps c.args.directions.now.policies c.in_ok-maps.maps)
          c.bgp_edges.new.store c.args.directions.now.hops.items c.in_ok-found.found refl c.as_slice-2.ensures c.requires.directions.hops.hops_are
          (c.in_ok-found.ensures.edges n.routers (imports_are n c.args.directions.now c.requires.directions.hops));
      marks = subst (λ (r : List Router). AreLone c.bgp_edges.new.store c.in_ok-found.found.acts.acts.items (length r) c.in_ok-found.found.edges
          c.in_ok-lone.lone) routers_are marks_of_edges;
      names_are = c.in_ok-names.ensures ∙ ap (λ (r : List Router). map (λ (router : Router). router.name) r) routers_are;
      numbers_are = c.in_ok-numbers.ensures ∙ ap (λ (r : List Router). map as_number_of r) routers_are;
      acts_are = c.in_ok-acts.ensures ∙ (λ j. map (λ (act : BgpAct). act_of_hop c.first_prefix-p.result (routers_are j) act.first) (c.deref-3.ensures.value j));
    } in
    is_built n c.args.class.now c.first_prefix-p.result c.in_ok-names.names c.in_ok-numbers.numbers c.in_ok-init.init c.in_ok-lone.lone c.in_ok-acts.acts
    (line_maps c.args.directions.now.policies c.in_ok-maps.maps) c.bgp_edges.new.store c.in_ok-found.found call few_hops c.new-problem.result
    c.new-problem.ensures c.count-known.ensures.rules
