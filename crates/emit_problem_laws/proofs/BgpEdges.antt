-- In BGP the edges of the problem of the groups stand for the directions of sessions that carry routes, each with an
-- act that imports what the session does.
use Rattle.std.proofs.Common.{◌≡◌, ◌≢◌, ℕ, ◌<◌, Bool, false, List, map, inl, inr, Option, Some, None, refl, sym, ◌∙◌, ap, subst, arith, nat_eq}
use Rattle.std.specs.Prelude.{Contains, slice_get, slice_index_or, if◌then◌else◌}
use Rattle.std.specs.Option.{option_map}
use Rattle.std.proofs.lemmas.Bool.Decides.{nat_tests}
use Rattle.base_kit.specs.Prefixes.{Prefix}
use Rattle.base_kit.specs.Sets.{IsAscending}
use Rattle.base_kit.specs.declared.act_graph.Edge.{Edge}
use Rattle.base_kit.specs.declared.protocol.Protocol.{Protocol}
use Rattle.base_kit.specs.declared.protocol.Protocol.TheVariants.{Bgp as OverBgp}
use Rattle.base_kit.proofs.Elements.{In, in_contains, contains_in, get_in}
use Rattle.base_kit.proofs.SetFacts.{same_number}
use Rattle.cfg_ast.specs.declared.bgp.Neighbor.{Neighbor}
use Rattle.cfg_ast.specs.declared.network.Network.{Network}
use Rattle.cfg_ast.specs.declared.network.Router.{Router}
use Rattle.cfg_ast.specs.meaning.Topology.{neighbors_of}
use Rattle.route_maps.specs.declared.plain.Imported.{Imported}
use Rattle.route_maps.specs.Sessions.{session_import}
use Rattle.abstract_net.specs.Carried.{IsJoined}
use Rattle.abstract_net.specs.Links.{QuotientCarries}
use Rattle.abstract_net.specs.declared.qlink.QLink.{QLink}
use Rattle.srp_core.specs.declared.route.Act.{Act}
use Rattle.srp_core.specs.declared.route.Act.TheVariants.{Import, Cost}
use Rattle.srp_core.specs.declared.route.Route.{Route}
use Rattle.srp_core.specs.Acts.{IsActOf, import_by}
use Rattle.srp_core.specs.Problem.{act_of, number, IsProblem}
use Rattle.srp_core.specs.ProblemOf.{Direction, IsDirection, IsEdgeDirection, SessionEnds, CarriesRoutes, MeansLink, StandsFor, start_route}
use Rattle.srp_quotient.specs.Groups.{edge_into, lower_edge, quotient_problem}
use Rattle.srp_quotient.proofs.Quotient.{into_real}
use Rattle.config_emit.specs.Maps.{other_end}
use Rattle.config_emit.specs.Plan.{Plan, small, act_of_place, act_into}
use Rattle.config_emit.specs.Emitted.{neighbor_at, emitted_router, emitted}
use Rattle.config_emit.specs.Laws.{IsPlan}
use Rattle.emit_form_laws.proofs.Groups.{carries, linked}
use Rattle.emit_link_laws.proofs.EmittedPlaces.{router_at}
use Rattle.emit_link_laws.proofs.Links.{plan_between}
use Rattle.emit_map_laws.specs.Laws.{imported_by, SessionsImportActs}
use Rattle.emit_origin_laws.proofs.Starts.{start_at}
use Rattle.emit_problem_laws.proofs.Directions.{HasLinks, direction, is_direction, of_link, one_direction, touched, turned}
use Rattle.emit_problem_laws.proofs.LinkEdges.{of_edge, to_edge, ends_below}
use Rattle.emit_problem_laws.proofs.LinkItems.{neighbor_at_item}
use Rattle.emit_problem_laws.proofs.OspfEdges.{act_fits}

-- the ends of a session are known by its direction
one_session : (n : Network) (p : Prefix) (d : Direction) (a b : SessionEnds n d) (comms : List ℕ) →
    session_import p a.exporter a.exporter_line a.importer a.importer_line comms ≡ session_import p b.exporter b.exporter_line b.importer b.importer_line comms
one_session n p d a b comms =
    let exporter : a.exporter ≡ b.exporter = some_is (sym a.exporter_at ∙ b.exporter_at) in
    let importer : a.importer ≡ b.importer = some_is (sym a.importer_at ∙ b.importer_at) in
    let exporter_line : a.exporter_line ≡ b.exporter_line =
    some_is (sym a.exporter_line_at ∙ ap (λ (r : Router). slice_get (neighbors_of r) d.exporter_item) exporter ∙ b.exporter_line_at) in
    let importer_line : a.importer_line ≡ b.importer_line =
    some_is (sym a.importer_line_at ∙ ap (λ (r : Router). slice_get (neighbors_of r) d.importer_item) importer ∙ b.importer_line_at) in
    ap (λ (r : Router). session_import p r a.exporter_line a.importer a.importer_line comms) exporter
    ∙ ap (λ (x : Neighbor). session_import p b.exporter x a.importer a.importer_line comms) exporter_line
    ∙ ap (λ (r : Router). session_import p b.exporter b.exporter_line r a.importer_line comms) importer
    ∙ ap (λ (x : Neighbor). session_import p b.exporter b.exporter_line b.importer x comms) importer_line
  where
    some_is : {X : Type 0} {x y : X} → Some x ≡ Some y → x ≡ y
    some_is e = cc

-- an act that imports some set of communities
record ImportsSome (a : Act) : Type 0 where
  comms : List ℕ
  is_set : IsAscending comms
  imported : Imported
  accepted : import_by a comms ≡ Some imported

imports_some : (n : Network) (p : Prefix) (d : Direction) (a : Act) → IsActOf OverBgp a → MeansLink n p d a → CarriesRoutes n p d → ImportsSome a
unfolding import_by
imports_some n p d (Cost c) fits means carried = absurd fits
imports_some n p d (Import out sends into) fits means carried = record {
  comms = carried.comms;
  is_set = carried.is_set;
  imported = carried.imported;
  accepted = means.same carried.comms carried.is_set ∙ one_session n p d means.ends carried.ends carried.comms ∙ carried.accepted;
}

other_is : (l : QLink) (g h : ℕ) → l.low < l.high → IsJoined l g h → other_end g l ≡ h
other_is l g h less (inl j) = ap (λ (b : Bool). if b then l.high else l.low) (same_number l.low g j.0) ∙ j.1
other_is l g h less (inr j) = ap (λ (b : Bool). if b then l.high else l.low) (differ l.low g (let x = j.0 in omega arith)) ∙ j.1
  where
    differ : (m n : ℕ) → m < n → nat_eq m n ≡ false
    differ m n less = grind (arith, nat_tests)

module _ (e : Plan) (plan : IsPlan e) (law : QuotientCarries) (imports : SessionsImportActs) (over : e.problem.protocol ≡ OverBgp) (links : HasLinks e)
    (rules : IsProblem (small e))
    (p : Prefix) (p_in : Contains e.class.prefixes p) (init : map (start_route p) (emitted e).routers ≡ (small e).init) where
  numbered : (l : QLink) (g h : ℕ) → In e.links l → IsJoined l g h → number (small e) g ≢ 0
  numbered l g h at joined = linked e plan law over g l at (touched l g h joined)

  abbrev ends : (g h t : ℕ) (l : QLink) → slice_get e.links t ≡ Some l → IsJoined l g h → SessionEnds (emitted e) (direction e t g h)
  ends g h t l at joined =
      let has = get_in e.links t l at in
      let inside = ends_below e.links e.count l g h (plan_between e plan) has joined in
      record {
        exporter = emitted_router e h;
        exporter_at = router_at e h inside.1;
        exporter_line = neighbor_at e h (t, l);
        exporter_line_at = neighbor_at_item e over h t l (numbered l h g has (turned l g h joined)) at (touched l h g (turned l g h joined));
        importer = emitted_router e g;
        importer_at = router_at e g inside.0;
        importer_line = neighbor_at e g (t, l);
        importer_line_at = neighbor_at_item e over g t l (numbered l g h has joined) at (touched l g h joined);
      }

  -- what the session of link t imports into g
  session : (g h t : ℕ) (l : QLink) (comms : List ℕ) → slice_get e.links t ≡ Some l → IsJoined l g h →
      session_import p (emitted_router e h) (neighbor_at e h (t, l)) (emitted_router e g) (neighbor_at e g (t, l)) comms ≡ imported_by (act_into e g l) comms
  session g h t l comms at joined =
      let has = get_in e.links t l at in
      let less = (plan_between e plan).low l has in
      ap (λ (o : ℕ). session_import p (emitted_router e o) (neighbor_at e o (t, l)) (emitted_router e g) (neighbor_at e g (t, l)) comms)
      (sym (other_is l g h less joined))
      ∙ imports e plan over p g t l (contains_in e.links l has) (touched l g h joined) comms

  session_of_act : (g h t k : ℕ) (l : QLink) (comms : List ℕ) → slice_get e.links t ≡ Some l → IsJoined l g h →
      edge_into e.problem.protocol e.links g l ≡ Some k →
      session_import p (emitted_router e h) (neighbor_at e h (t, l)) (emitted_router e g) (neighbor_at e g (t, l)) comms ≡ import_by (act_of_place e k) comms
  session_of_act g h t k l comms at joined into = session g h t l comms at joined
      ∙ ap (λ (o : Option ℕ). imported_by (option_map (act_of_place e) o) comms) into

  -- the act of an edge imports something, as its edge in the network read carries routes
  some_import : (g h k : ℕ) (l : QLink) → In e.links l → IsJoined l g h → edge_into e.problem.protocol e.links g l ≡ Some k → ImportsSome (act_of_place e k)
  some_import g h k l at joined into =
      let b = (into_real e.problem.protocol e.problem.edges e.groups e.count e.links (carries e plan law) l g h k (contains_in e.links l at) joined
      into).between in
      let of = plan.problem p p_in in
      let stands = of.edges_stand b.edge b.has in
      let same : act_of e.problem b.edge ≡ act_of_place e k = ap (λ j. slice_index_or e.problem.acts j (Cost 0)) b.does in
      let fits = subst (λ (q : Protocol). IsActOf q (act_of_place e k)) over (act_fits e plan law g h k l at joined into) in
      imports_some e.network p stands.0 (act_of_place e k) fits (subst (MeansLink e.network p stands.0) same stands.1.means)
      (subst (λ (q : Protocol). IsEdgeDirection q e.network p stands.0) over stands.1.is_edge)

  means_session : (g h t k : ℕ) (l : QLink) (a : Act) → slice_get e.links t ≡ Some l → IsJoined l g h → edge_into e.problem.protocol e.links g l ≡ Some k →
      act_of_place e k ≡ a → IsActOf OverBgp a → MeansLink (emitted e) p (direction e t g h) a
  unfolding import_by
  means_session g h t k l (Cost c) at joined into act fits = absurd fits
  means_session g h t k l (Import out sends into_map) at joined into act fits = record {
    ends = ends g h t l at joined;
    same = λ comms set. sym (session_of_act g h t k l comms at joined into ∙ ap (λ (a : Act). import_by a comms) act);
  }

  unoriginated : (g h t k : ℕ) (l : QLink) → slice_get e.links t ≡ Some l → IsJoined l g h → edge_into e.problem.protocol e.links g l ≡ Some k →
      start_route p (emitted_router e g) ≡ None
  unfolding quotient_problem
  unoriginated g h t k l at joined into =
      let inside = ends_below e.links e.count l g h (plan_between e plan) (get_in e.links t l at) joined in
      let edge = lower_edge e.problem.edges t g h k in
      let has = contains_in (small e).edges edge (to_edge e.problem.protocol e.problem.edges e.count e.links (plan_between e plan) t l g h k at joined into) in
      sym (start_at p (emitted e).routers g (emitted_router e g) (router_at e g inside.0)) ∙ ap (λ (os : List (Option Route)). slice_index_or os g None) init
      ∙ rules.starts.unoriginated over edge has

  carried : (g h t k : ℕ) (l : QLink) → slice_get e.links t ≡ Some l → IsJoined l g h → edge_into e.problem.protocol e.links g l ≡ Some k →
      CarriesRoutes (emitted e) p (direction e t g h)
  carried g h t k l at joined into =
      let some = some_import g h k l (get_in e.links t l at) joined into in
      record {
        ends = ends g h t l at joined;
        unoriginated = unoriginated g h t k l at joined into;
        comms = some.comms;
        is_set = some.is_set;
        imported = some.imported;
        accepted = session_of_act g h t k l some.comms at joined into ∙ some.accepted;
      }

  stands : (g h t k : ℕ) (l : QLink) → slice_get e.links t ≡ Some l → IsJoined l g h → edge_into e.problem.protocol e.links g l ≡ Some k →
      StandsFor (small e) (emitted e) p (lower_edge e.problem.edges t g h k) (direction e t g h)
  unfolding quotient_problem
  stands g h t k l at joined into = record {
    is_direction = is_direction e links t l g h at joined;
    is_edge = subst (λ (q : Protocol). IsEdgeDirection q (emitted e) p (direction e t g h)) (sym over) (carried g h t k l at joined into);
    link = refl;
    importer = refl;
    exporter = refl;
    means = means_session g h t k l (act_of_place e k) at joined into refl
        (subst (λ (q : Protocol). IsActOf q (act_of_place e k)) over (act_fits e plan law g h k l (get_in e.links t l at) joined into));
  }

  pub bgp_stand : (edge : Edge) → Contains (small e).edges edge → (d : Direction) × StandsFor (small e) (emitted e) p edge d
  unfolding quotient_problem
  bgp_stand edge has =
      let f = of_edge e.problem.protocol e.problem.edges e.count e.links edge (in_contains (small e).edges edge has) in
      let d = direction e f.place f.to f.from in
      (d, subst (λ (x : Edge). StandsFor (small e) (emitted e) p x d) f.is (stands f.to f.from f.place f.k f.link f.at f.joined f.into))

  -- a session that imports something has an act
  has_act : (g h t : ℕ) (l : QLink) → slice_get e.links t ≡ Some l → IsJoined l g h → CarriesRoutes (emitted e) p (direction e t g h) →
      (k : ℕ) × (edge_into e.problem.protocol e.links g l ≡ Some k)
  has_act g h t l at joined carries_some =
      by (edge_into e.problem.protocol e.links g l) refl
      (sym (session g h t l carries_some.comms at joined)
      ∙ one_session (emitted e) p (direction e t g h) (ends g h t l at joined) carries_some.ends carries_some.comms ∙ carries_some.accepted)
    where
      by : (o : Option ℕ) → edge_into e.problem.protocol e.links g l ≡ o →
          imported_by (option_map (act_of_place e) (edge_into e.problem.protocol e.links g l)) carries_some.comms ≡ Some carries_some.imported →
          (k : ℕ) × (edge_into e.problem.protocol e.links g l ≡ Some k)
      by (Some k) into accepted = (k, into)
      by None into accepted = (let none = sym (ap (λ (o : Option ℕ). imported_by (option_map (act_of_place e) o) carries_some.comms) into) ∙ accepted in
          absurd cc)

  pub bgp_all : (d : Direction) → IsDirection (emitted e) d → CarriesRoutes (emitted e) p d → (edge : Edge) × Contains (small e).edges edge
      × StandsFor (small e) (emitted e) p edge d
  unfolding quotient_problem
  bgp_all d is carries_some =
      let f = of_link e links d is in
      let one = one_direction e d f in
      let k = has_act d.importer d.exporter d.link f.link f.at f.joined (subst (λ (x : Direction). CarriesRoutes (emitted e) p x) (sym one) carries_some) in
      let edge = lower_edge e.problem.edges d.link d.importer d.exporter k.0 in (
        edge,
        contains_in (small e).edges edge (to_edge e.problem.protocol e.problem.edges e.count e.links (plan_between e plan) d.link f.link d.importer d.exporter
            k.0 f.at f.joined k.1),
        subst (λ (x : Direction). StandsFor (small e) (emitted e) p edge x) one (stands d.importer d.exporter d.link k.0 f.link f.at f.joined k.1),
      )
