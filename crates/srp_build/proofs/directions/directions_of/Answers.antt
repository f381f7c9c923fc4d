use Rattle.std.proofs.Common.{◌≡◌, ◌<◌, ◌≤◌, ◌∙◌, true, List, length, map, refl, sym, ap, subst, arith}
use Rattle.std.proofs.lemmas.List.{length-map}
use Rattle.std.specs.Prelude.{All}
use Rattle.base_kit.specs.declared.act_graph.Edge.{Edge}
use Rattle.cfg_ast.specs.declared.network.Network.{Network}
use Rattle.cfg_ast.specs.declared.network.Router.{Router}
use Rattle.cfg_ast.specs.declared.topology.Link.{Link}
use Rattle.cfg_ast.specs.meaning.RouterFaults.{protocol_of}
use Rattle.srp_build.specs.declared.hops.Hop.{Hop}
use Rattle.srp_build.specs.Costs.{NumbersHops}
use Rattle.srp_build.specs.Directions.{AreSessionHops, directions_of}
use Rattle.srp_build.specs.Hops.{hops_of, sorted_by_ends, AreHopsInside}
use Rattle.srp_build.specs.PlacedEdges.{unnumbered_edge, hop_of}
use Rattle.srp_build.specs.LinePolicies.{JoinsLines}
use Rattle.srp_build.specs.Problem.{is_bgp as is_over_bgp}
use Rattle.srp_build.proofs.BgpChecked.{is_bgp, bgp_is}
use Rattle.srp_build.proofs.DirectionsOf.{sorted_are, few_directions}
use Rattle.srp_build.proofs.EdgeNumbers.{numbers_of_hops}
use Rattle.srp_build.proofs.LinesJoined.{all_join}
use Rattle.srp_build.proofs.LinkPlaces.{all_apart, all_inside}
use Rattle.srp_build.proofs.SortedHops.{length-hops_of, length_sorted}
use Rattle.srp_build.proofs.directions.directions_of.Goals as goal

pub sorted_hops-requires-clause-few : goal.sorted_hops-requires-clause-few
sorted_hops-requires-clause-few c =
    let n = c.args.net.now.network in
    let links_are = ap length (c.as_slice-links.ensures ∙ c.requires) in
    let few_links = c.few_links.ensures n (c.given_is_well_formed.ensures n c.args.net.now.given) c.args.net.now.faultless in
    omega arith

pub sorted_hops-requires-clause-apart : goal.sorted_hops-requires-clause-apart
sorted_hops-requires-clause-apart c =
    let n = c.args.net.now.network in
    subst (λ (l : List Link). All (λ (link : Link). link.low < link.high) l) (sym (c.as_slice-links.ensures ∙ c.requires)) (all_apart n)

pub sorted_hops-requires-clause-inside : goal.sorted_hops-requires-clause-inside
sorted_hops-requires-clause-inside c =
    let n = c.args.net.now.network in
    let routers_are = c.as_slice-routers.ensures ∙ ap (λ (m : Network). m.routers) c.network.ensures.same in
    subst (λ (r : List Router). AreHopsInside (length r) (hops_of c.as_slice-links.result.now)) (sym routers_are)
    (subst (λ (l : List Link). AreHopsInside (length n.routers) (hops_of l)) (sym (c.as_slice-links.ensures ∙ c.requires)) (all_inside n))

pub session_hops-requires : goal.session_hops-requires
session_hops-requires c =
    let n = c.args.net.now.network in
    let routers_are = c.as_slice-routers.ensures ∙ ap (λ (m : Network). m.routers) c.network.ensures.same in
    let few = subst (λ (m : Network). length m.routers ≤ 4096) c.network.ensures.same c.network.ensures.few_routers in
    let over : is_over_bgp (protocol_of n) ≡ true = sym c.runs_bgp.ensures ∙ c.if-runs_bgp.true in
    let bgp = is_bgp n (c.given_is_well_formed.ensures n c.args.net.now.given) c.args.net.now.faultless few (bgp_is (protocol_of n) over) in
    let hops = c.in_ok-hops.hops.items in
    let links_are = c.as_slice-links.ensures ∙ c.requires in
    let same = sorted_are n c.as_slice-routers.result.now c.as_slice-links.result.now hops routers_are links_are c.in_ok-hops.ensures.sorted in
    subst (λ (r : List Router). All (JoinsLines r) hops) (sym routers_are) (subst (λ (h : List Hop). All (JoinsLines n.routers) h) (sym same) (all_join n bgp))

pub returns-then-runs_bgp : goal.returns-then-runs_bgp
returns-then-runs_bgp c =
    let n = c.args.net.now.network in
    let routers_are = c.as_slice-routers.ensures ∙ ap (λ (m : Network). m.routers) c.network.ensures.same in
    let links_are = c.as_slice-links.ensures ∙ c.requires in
    let few_links = c.few_links.ensures n (c.given_is_well_formed.ensures n c.args.net.now.given) c.args.net.now.faultless in
    let same = sorted_are n c.as_slice-routers.result.now c.as_slice-links.result.now c.in_ok-hops.hops.items routers_are links_are c.in_ok-hops.ensures.sorted
    in
    record {
      bgp = sym c.runs_bgp.ensures ∙ c.if-runs_bgp.true;
      hops = subst (λ (r : List Router). AreSessionHops r (directions_of n) c.in_ok-found.found) routers_are
          (subst (λ (h : List Hop). AreSessionHops c.as_slice-routers.result.now h c.in_ok-found.found) same c.in_ok-found.ensures);
      few = few_directions n c.as_slice-links.result.now c.in_ok-hops.hops.items links_are same c.in_ok-hops.ensures.len few_links;
    }

pub placed_edges-requires-clause-few : goal.placed_edges-requires-clause-few
placed_edges-requires-clause-few c =
    let n = c.args.net.now.network in
    let links_are = ap length (c.as_slice-links.ensures ∙ c.requires) in
    let few_links = c.few_links.ensures n (c.given_is_well_formed.ensures n c.args.net.now.given) c.args.net.now.faultless in
    omega arith

pub placed_edges-requires-clause-apart : goal.placed_edges-requires-clause-apart
placed_edges-requires-clause-apart c =
    let n = c.args.net.now.network in
    subst (λ (l : List Link). All (λ (link : Link). link.low < link.high) l) (sym (c.as_slice-links.ensures ∙ c.requires)) (all_apart n)

pub placed_edges-requires-clause-inside : goal.placed_edges-requires-clause-inside
placed_edges-requires-clause-inside c =
    let n = c.args.net.now.network in
    let routers_are = c.as_slice-routers.ensures ∙ ap (λ (m : Network). m.routers) c.network.ensures.same in
    subst (λ (r : List Router). AreHopsInside (length r) (hops_of c.as_slice-links.result.now)) (sym routers_are)
    (subst (λ (l : List Link). AreHopsInside (length n.routers) (hops_of l)) (sym (c.as_slice-links.ensures ∙ c.requires)) (all_inside n))

pub number_edges-requires : goal.number_edges-requires
number_edges-requires c =
    let n = c.args.net.now.network in
    let links_are = ap length (c.as_slice-links.ensures ∙ c.requires) in
    let few_links = c.few_links.ensures n (c.given_is_well_formed.ensures n c.args.net.now.given) c.args.net.now.faultless in
    let hops = sorted_by_ends (length c.as_slice-routers.result.now) (hops_of c.as_slice-links.result.now) in
    let same = ap length c.in_ok-edges.ensures ∙ length-map hops unnumbered_edge in
    let most = length_sorted (length c.as_slice-routers.result.now) (hops_of c.as_slice-links.result.now) in
    let twice = length-hops_of c.as_slice-links.result.now in
    omega arith

pub returns : goal.returns
returns c =
    let n = c.args.net.now.network in
    let routers_are = c.as_slice-routers.ensures ∙ ap (λ (m : Network). m.routers) c.network.ensures.same in
    let links_are = c.as_slice-links.ensures ∙ c.requires in
    let few_links = c.few_links.ensures n (c.given_is_well_formed.ensures n c.args.net.now.given) c.args.net.now.faultless in
    let hops = sorted_by_ends (length c.as_slice-routers.result.now) (hops_of c.as_slice-links.result.now) in
    let same = sorted_are n c.as_slice-routers.result.now c.as_slice-links.result.now hops routers_are links_are refl in
    let numbered = c.in_ok-numbered.numbered in
    let numbers = numbers_of_hops c.as_slice-routers.result.now numbered.costs hops numbered.edges
    (subst (λ (l : List Edge). NumbersHops c.as_slice-routers.result.now numbered.costs (map hop_of l) numbered.edges) c.in_ok-edges.ensures
    c.in_ok-numbered.ensures) in
    record {
      not_bgp = sym c.runs_bgp.ensures ∙ c.if-runs_bgp.false;
      numbers = subst (λ (r : List Router). NumbersHops r numbered.costs (directions_of n) numbered.edges) routers_are
          (subst (λ (h : List Hop). NumbersHops c.as_slice-routers.result.now numbered.costs h numbered.edges) same numbers);
      few = few_directions n c.as_slice-links.result.now hops links_are same
          (length_sorted (length c.as_slice-routers.result.now) (hops_of c.as_slice-links.result.now)) few_links;
    }
