-- In OSPF the edges of the problem of the groups stand for the directions of the links, each at the cost of the
-- importer's interface.
use Rattle.std.proofs.Common.{◌≡◌, ◌≢◌, ℕ, ◌+◌, ◌<◌, true, List, [], ◌∷◌, length, inl, inr, Option, Some, None, refl, sym, ◌∙◌, ap, subst, arith, is_some}
use Rattle.std.specs.Prelude.{Contains, filter, filter_map, slice_get, slice_index, option_and_then, if◌then◌else◌}
use Rattle.std.specs.Option.{option_map}
use Rattle.base_kit.specs.Prefixes.{Prefix}
use Rattle.base_kit.specs.declared.act_graph.Edge.{Edge}
use Rattle.base_kit.specs.declared.protocol.Protocol.{Protocol}
use Rattle.base_kit.specs.declared.protocol.Protocol.TheVariants.{Ospf as OverOspf}
use Rattle.base_kit.proofs.Elements.{In, in_contains, contains_in, in_filter, in_filter_map, get_in}
use Rattle.base_kit.proofs.SetFacts.{same_number}
use Rattle.cfg_ast.specs.declared.interface.Interface.{Interface}
use Rattle.cfg_ast.specs.declared.network.Network.{Network}
use Rattle.cfg_ast.specs.meaning.Topology.{default_cost_of, type_of, cost_of_interface, cost_of}
use Rattle.abstract_net.specs.Carried.{IsJoined, side_of, act_at}
use Rattle.abstract_net.specs.Links.{QuotientCarries}
use Rattle.abstract_net.specs.declared.qlink.QLink.{QLink}
use Rattle.srp_core.specs.declared.route.Act.{Act}
use Rattle.srp_core.specs.declared.route.Act.TheVariants.{Import, Cost}
use Rattle.srp_core.specs.Acts.{IsActOf}
use Rattle.srp_core.specs.ProblemOf.{Direction, IsDirection, IsEdgeDirection, MeansLink, StandsFor}
use Rattle.srp_quotient.specs.Groups.{same_group_pair, or_else, last_of, last_into, edge_into, lower_edge, quotient_problem}
use Rattle.srp_quotient.proofs.Quotient.{into_real}
use Rattle.config_emit.specs.Plan.{Plan, small, act_of_place}
use Rattle.config_emit.specs.Interfaces.{cost_by, link_interface}
use Rattle.config_emit.specs.Emitted.{emitted_router, emitted}
use Rattle.config_emit.specs.Laws.{IsPlan}
use Rattle.emit_form_laws.proofs.Groups.{problem_of, carries}
use Rattle.emit_link_laws.specs.Laws.{links_before, item_at}
use Rattle.emit_link_laws.proofs.EmittedPlaces.{router_at}
use Rattle.emit_link_laws.proofs.Links.{plan_between}
use Rattle.emit_problem_laws.proofs.Directions.{HasLinks, direction, is_direction, of_link, one_direction, touched, turned}
use Rattle.emit_problem_laws.proofs.LinkEdges.{of_edge, to_edge, ends_below}
use Rattle.emit_problem_laws.proofs.LinkItems.{interface_at_item}

-- ---- links that carry something both ways

last_some : (ks : List ℕ) (k : ℕ) → In ks k → (j : ℕ) × (last_of ks ≡ Some j)
last_some [] k at = absurd at
last_some (x ∷ xs) k at = by (last_of xs)
  where
    by : (o : Option ℕ) → (j : ℕ) × (or_else o (Some x) ≡ Some j)
    by None = (x, refl)
    by (Some j) = (j, refl)

same_ends : (l m : QLink) (g h : ℕ) → l.low < l.high → m.low < m.high → IsJoined l g h → IsJoined m g h → same_group_pair l m ≡ true
same_ends l m g h less low (inl a) (inl b) = rw (same_number l.low m.low (a.0 ∙ sym b.0), same_number l.high m.high (a.1 ∙ sym b.1)) refl
same_ends l m g h less low (inr a) (inr b) = rw (same_number l.low m.low (a.1 ∙ sym b.1), same_number l.high m.high (a.0 ∙ sym b.0)) refl
same_ends l m g h less low (inl a) (inr b) = let w = a.0 in let x = a.1 in let y = b.0 in let z = b.1 in absurd (omega arith)
same_ends l m g h less low (inr a) (inl b) = let w = a.0 in let x = a.1 in let y = b.0 in let z = b.1 in absurd (omega arith)

other_way : Direction → Direction
other_way d = record { link = d.link; importer = d.exporter; exporter = d.importer; importer_item = d.exporter_item; exporter_item = d.importer_item }

turned_direction : (n : Network) (d : Direction) → IsDirection n d → IsDirection n (other_way d)
unfolding other_way
turned_direction n d (inl is) = inr is
turned_direction n d (inr is) = inl is

-- ---- an act of the problem

pub act_within : (e : Plan) → IsPlan e → (law : QuotientCarries) → (g h k : ℕ) (l : QLink) → In e.links l → IsJoined l g h →
    edge_into e.problem.protocol e.links g l ≡ Some k → act_at e.problem.edges k < length e.problem.acts
act_within e plan law g h k l at joined into =
    let b = (into_real e.problem.protocol e.problem.edges e.groups e.count e.links (carries e plan law) l g h k (contains_in e.links l at) joined into).between
    in
    let within = ((problem_of e plan).of.rules.edges.inside b.edge b.has).act_in in
    let does = b.does in
    omega arith

pub act_fits : (e : Plan) → IsPlan e → (law : QuotientCarries) → (g h k : ℕ) (l : QLink) → In e.links l → IsJoined l g h →
    edge_into e.problem.protocol e.links g l ≡ Some k → IsActOf e.problem.protocol (act_of_place e k)
act_fits e plan law g h k l at joined into =
    (problem_of e plan).of.rules.acts.fit (act_at e.problem.edges k) (Cost 0) (act_within e plan law g h k l at joined into)

module _ (e : Plan) (plan : IsPlan e) (law : QuotientCarries) (over : e.problem.protocol ≡ OverOspf) (links : HasLinks e) where
  side_first : (l : QLink) (g k : ℕ) → side_of g l ≡ Some k → edge_into e.problem.protocol e.links g l ≡ Some k
  unfolding edge_into
  side_first l g k side = ap (λ (q : Protocol). edge_into q e.links g l) over ∙ ap (λ (o : Option ℕ). or_else o (last_into e.links g l)) side

  last_instead : (l : QLink) (g k : ℕ) → side_of g l ≡ None → last_into e.links g l ≡ Some k → edge_into e.problem.protocol e.links g l ≡ Some k
  unfolding edge_into
  last_instead l g k none last = ap (λ (q : Protocol). edge_into q e.links g l) over ∙ ap (λ (o : Option ℕ). or_else o (last_into e.links g l)) none ∙ last

  -- where a link carries nothing into g, some other one of the pair does, since adjacencies go both ways
  other_carries : (l : QLink) (g h : ℕ) → In e.links l → IsJoined l g h → side_of g l ≡ None → (k : ℕ) × (last_into e.links g l ≡ Some k)
  unfolding other_way
  other_carries l g h at joined none =
      let has = contains_in e.links l at in
      let carry = carries e plan law in
      let p = problem_of e plan in
      let used = carry.used l g h has joined none in
      let there = (carry.real l h g used.0 has (turned l g h joined) used.1).between in
      let stands = p.of.edges_stand there.edge there.has in
      let d = other_way stands.0 in
      let back = p.of.edges_all d (turned_direction e.network stands.0 stands.1.is_direction)
      (subst (λ (q : Protocol). IsEdgeDirection q e.network p.prefix d) (sym over) tt) in
      let importer : slice_index e.groups back.0.importer ≡ g = ap (slice_index e.groups) (back.2.importer ∙ sym stands.1.exporter) ∙ there.exporter in
      let exporter : slice_index e.groups back.0.exporter ≡ h = ap (slice_index e.groups) (back.2.exporter ∙ sym stands.1.importer) ∙ there.importer in
      let below = carry.below l has in
      let kept = carry.kept g h back.0.act (apart l g h below.ordered joined)
      (record { edge = back.0; has = back.1; importer = importer; exporter = exporter; does = refl }) in
      let same = same_ends l kept.link g h below.ordered (carry.below kept.link kept.has).ordered joined kept.joined in
      last_some (filter_map (side_of g) (filter (same_group_pair l) e.links)) kept.edge
      (in_filter_map (side_of g) (filter (same_group_pair l) e.links) kept.link kept.edge
      (in_filter (same_group_pair l) e.links kept.link (in_contains e.links kept.link kept.has) same) kept.side)
    where
      apart : (l : QLink) (g h : ℕ) → l.low < l.high → IsJoined l g h → g ≢ h
      apart l g h less (inl j) same = let x = j.0 in let y = j.1 in absurd (omega arith)
      apart l g h less (inr j) same = let x = j.0 in let y = j.1 in absurd (omega arith)

  both_ways : (l : QLink) (g h : ℕ) → In e.links l → IsJoined l g h → (k : ℕ) × (edge_into e.problem.protocol e.links g l ≡ Some k)
  both_ways l g h at joined = by (side_of g l) refl
    where
      by : (o : Option ℕ) → side_of g l ≡ o → (k : ℕ) × (edge_into e.problem.protocol e.links g l ≡ Some k)
      by (Some k) side = (k, side_first l g k side)
      by None none = (let last = other_carries l g h at joined none in (last.0, last_instead l g last.0 none last.1))

  -- ---- costs

  cost_at : (g h t k c : ℕ) (l : QLink) → slice_get e.links t ≡ Some l → IsJoined l g h → edge_into e.problem.protocol e.links g l ≡ Some k →
      act_of_place e k ≡ Cost c → cost_of (emitted_router e g) (item_at e g t) ≡ Some c
  cost_at g h t k c l at joined into act =
      let x = link_interface e g (1 + links_before e.links g t, (t, l)) in
      let given : x.cost ≡ Some c = ap (λ (o : Option ℕ). option_and_then cost_by (option_map (act_of_place e) o)) into ∙ ap (λ (a : Act). cost_by a) act in
      ap (λ (o : Option Interface). option_and_then cost_of_interface o) (interface_at_item e over g t l at (touched l g h joined))
      ∙ ap (λ (o : Option ℕ). if is_some o then o else default_cost_of (type_of x)) given

  means_cost : (p : Prefix) (g h t k : ℕ) (l : QLink) (a : Act) → slice_get e.links t ≡ Some l → IsJoined l g h →
      edge_into e.problem.protocol e.links g l ≡ Some k → act_of_place e k ≡ a → IsActOf OverOspf a → MeansLink (emitted e) p (direction e t g h) a
  means_cost p g h t k l (Import out sends into_map) at joined into act fits = absurd fits
  means_cost p g h t k l (Cost c) at joined into act fits = record {
    importer = emitted_router e g;
    importer_at = router_at e g (ends_below e.links e.count l g h (plan_between e plan) (get_in e.links t l at) joined).0;
    same = cost_at g h t k c l at joined into act;
  }

  stands : (p : Prefix) (g h t k : ℕ) (l : QLink) → slice_get e.links t ≡ Some l → IsJoined l g h → edge_into e.problem.protocol e.links g l ≡ Some k →
      StandsFor (small e) (emitted e) p (lower_edge e.problem.edges t g h k) (direction e t g h)
  unfolding quotient_problem
  stands p g h t k l at joined into = record {
    is_direction = is_direction e links t l g h at joined;
    is_edge = subst (λ (q : Protocol). IsEdgeDirection q (emitted e) p (direction e t g h)) (sym over) tt;
    link = refl;
    importer = refl;
    exporter = refl;
    means = means_cost p g h t k l (act_of_place e k) at joined into refl
        (subst (λ (q : Protocol). IsActOf q (act_of_place e k)) over (act_fits e plan law g h k l (get_in e.links t l at) joined into));
  }

  pub ospf_stand : (p : Prefix) (edge : Edge) → Contains (small e).edges edge → (d : Direction) × StandsFor (small e) (emitted e) p edge d
  unfolding quotient_problem
  ospf_stand p edge has =
      let f = of_edge e.problem.protocol e.problem.edges e.count e.links edge (in_contains (small e).edges edge has) in
      let d = direction e f.place f.to f.from in
      (d, subst (λ (x : Edge). StandsFor (small e) (emitted e) p x d) f.is (stands p f.to f.from f.place f.k f.link f.at f.joined f.into))

  pub ospf_all : (p : Prefix) (d : Direction) → IsDirection (emitted e) d → (edge : Edge) × Contains (small e).edges edge
      × StandsFor (small e) (emitted e) p edge d
  unfolding quotient_problem
  ospf_all p d is =
      let f = of_link e links d is in
      let at = get_in e.links d.link f.link f.at in
      let k = both_ways f.link d.importer d.exporter at f.joined in
      let edge = lower_edge e.problem.edges d.link d.importer d.exporter k.0 in (
        edge,
        contains_in (small e).edges edge (to_edge e.problem.protocol e.problem.edges e.count e.links (plan_between e plan) d.link f.link d.importer d.exporter
            k.0 f.at f.joined k.1),
        subst (λ (x : Direction). StandsFor (small e) (emitted e) p edge x) (one_direction e d f)
            (stands p d.importer d.exporter d.link k.0 f.link f.at f.joined k.1),
      )
