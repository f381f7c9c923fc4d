-- The problem of an OSPF network with the initial routes to another prefix.
use Rattle.std.proofs.Common.{◌≡◌, ℕ, ◌≤◌, List, map, length, Option, Some, sym, ◌∙◌, ap, subst}
use Rattle.std.specs.Prelude.{Contains}
use Rattle.std.proofs.lemmas.List.{length-map}
use Rattle.base_kit.specs.declared.act_graph.Edge.{Edge}
use Rattle.base_kit.specs.declared.protocol.Protocol.{Protocol}
use Rattle.base_kit.specs.declared.protocol.Protocol.TheVariants.{Bgp as OverBgp, Ospf as OverOspf}
use Rattle.base_kit.specs.Prefixes.{Prefix}
use Rattle.cfg_ast.specs.declared.classes.DestClass.{DestClass}
use Rattle.cfg_ast.specs.declared.classes.Origin.{Origin}
use Rattle.cfg_ast.specs.declared.network.Network.{Network}
use Rattle.cfg_ast.specs.declared.network.Router.{Router}
use Rattle.cfg_ast.specs.meaning.Classes.{classes_of}
use Rattle.cfg_ast.specs.text.Reading.{IsGiven}
use Rattle.cfg_check.specs.Faultless.{IsFaultless}
use Rattle.route_maps.specs.declared.plain.Imported.{Imported}
use Rattle.srp_core.specs.declared.route.Route.{Route}
use Rattle.srp_core.specs.declared.route.Act.{Act}
use Rattle.srp_core.specs.declared.route.Act.TheVariants.{Import, Cost}
use Rattle.srp_core.specs.Acts.{import_by, IsActOf}
use Rattle.srp_core.specs.Problem.{Problem, count, act_of, IsProblem, with_init}
use Rattle.srp_core.specs.ProblemOf.{as_number_of, start_route, Direction, IsDirection, IsEdgeDirection, MeansLink, StandsFor, IsProblemOf}
use Rattle.srp_core.proofs.Offers.{edge_act}
use Rattle.srp_core.proofs.Steps.{no_import_cost}
use Rattle.srp_build.specs.Built.{IsBuiltFor}
use Rattle.srp_build.specs.Ospf.{IsOspf}
use Rattle.srp_build.specs.Starts.{starts_from}
use Rattle.srp_build.proofs.ClassPrefixes.{some_prefix}
use Rattle.srp_build.proofs.OspfActs.{ospf_first_acts}
use Rattle.srp_build.proofs.OspfChecked.{is_ospf}
use Rattle.srp_build.proofs.OspfRoutes.{has_starts}
use Rattle.srp_build.proofs.StartsOfClass.{starts_of_class, starts_of_some}

-- a cost means the same for each prefix
means_again : (n : Network) (p q : Prefix) (d : Direction) (act : Act) → IsActOf OverOspf act → MeansLink n p d act → MeansLink n q d act
means_again n p q d (Import out sends into) fits means = absurd fits
means_again n p q d (Cost cost) fits means = means

module _ (n : Network) (ospf : IsOspf n) (p q : Prefix) (problem : Problem) (over : problem.protocol ≡ OverOspf) (of : IsProblemOf n p problem)
    (init : List (Option Route)) (starts : init ≡ map (start_route q) n.routers) where
  abbrev again : Problem
  again = with_init problem init

  total : length init ≡ count again
  total = ap (λ (l : List (Option Route)). length l) starts ∙ length-map n.routers (start_route q)
      ∙ sym (ap (λ (l : List ℕ). length l) of.numbers ∙ length-map n.routers as_number_of)

  is_cost : (edge : Edge) → Contains problem.edges edge → IsActOf OverOspf (act_of problem edge)
  is_cost edge has = subst (λ (r : Protocol). IsActOf r (act_of problem edge)) over (edge_act problem of.rules edge has)

  -- so nobody is lone
  none_accepted : (edge : Edge) (comms : List ℕ) (i : Imported) → Contains problem.edges edge → import_by (act_of problem edge) comms ≡ Some i → ⊥
  none_accepted edge comms i has accepted = no_import_cost (act_of problem edge) comms i (is_cost edge has) accepted

  pub rules : IsProblem again
  rules = record {
    tables = (let t = of.rules.tables in
        record { few_routers = t.few_routers; few_edges = t.few_edges; names = t.names; init = total; lone = t.lone });
    edges = record {
      inside = λ edge has. (let e = of.rules.edges.inside edge has in
          record { importer_in = e.importer_in; exporter_in = e.exporter_in; differ = e.differ; act_in = e.act_in });
      ordered = of.rules.edges.ordered;
      one_of_link = of.rules.edges.one_of_link;
    };
    acts = record { fit = of.rules.acts.fit; keep = of.rules.acts.keep; differ = of.rules.acts.differ };
    starts = has_starts n ospf q again over starts;
    numbers = λ e. (let both : OverOspf ≡ OverBgp = sym over ∙ e in absurd cc);
    marks = record {
      only = λ u a h. (let some = (of.rules.marks.only u a h).first_accepted in
          absurd (none_accepted some.edge some.comms some.imported some.edge_in some.accepted));
      all = λ u a lone. (let some = lone.first_accepted in absurd (none_accepted some.edge some.comms some.imported some.edge_in some.accepted));
    };
  }

  stands_again : (edge : Edge) (d : Direction) → Contains problem.edges edge → StandsFor problem n p edge d → StandsFor again n q edge d
  stands_again edge d has stands = record {
    is_direction = stands.is_direction;
    is_edge = subst (λ (r : Protocol). IsEdgeDirection r n q d) (sym over) tt;
    link = stands.link;
    importer = stands.importer;
    exporter = stands.exporter;
    means = means_again n p q d (act_of problem edge) (is_cost edge has) stands.means;
  }

  edge_for : (d : Direction) → IsDirection n d → (edge : Edge) × Contains problem.edges edge × StandsFor again n q edge d
  edge_for d is =
      let found = of.edges_all d is (subst (λ (r : Protocol). IsEdgeDirection r n p d) (sym over) tt) in
      (found.0, found.1, stands_again found.0 d found.1 found.2)

  pub restarted : IsProblemOf n q again
  restarted = record {
    rules = rules;
    protocol = of.protocol;
    names = of.names;
    numbers = of.numbers;
    init = starts;
    edges_stand = λ edge has. (let s = of.edges_stand edge has in (s.0, stands_again edge s.0 has s.1));
    edges_all = λ d is carries. edge_for d is;
  }

-- ---- from one class of a network to another

-- the initial routes, as the code makes them
pub starts_for : (n network : Network) (class : DestClass) (routers : List Router) (origins : List Origin) (init : List (Option Route)) →
    network ≡ n → routers ≡ network.routers → origins ≡ class.origins → init ≡ starts_from 0 origins routers → init ≡ starts_from 0 class.origins n.routers
starts_for n network class routers origins init same routers_are origins_are init_is =
    init_is ∙ ap (λ (o : List Origin). starts_from 0 o routers) origins_are
    ∙ ap (λ (r : List Router). starts_from 0 class.origins r) (routers_are ∙ ap (λ (m : Network). m.routers) same)

module _ (n : Network) (given : ∥ IsGiven n ∥₁) (faultless : IsFaultless n) (few : length n.routers ≤ 4096) (problem : Problem)
    (over : problem.protocol ≡ OverOspf) (before : (other : DestClass) × Contains (classes_of n) other × IsBuiltFor n other problem)
    (class : DestClass) (has : Contains (classes_of n) class) (init : List (Option Route)) (init_is : init ≡ starts_from 0 class.origins n.routers) where
  abbrev old_prefix : (p : Prefix) × Contains before.0.prefixes p
  old_prefix = some_prefix n before.0 before.1

  was : IsProblemOf n old_prefix.0 problem
  was = before.2.of old_prefix.0 old_prefix.1

  network_is : IsOspf n
  network_is = is_ospf n given faultless few (was.protocol ∙ ap Some over)

  pub rules_for : IsProblem (with_init problem init)
  rules_for =
      let some = starts_of_some n class has in
      rules n network_is old_prefix.0 some.0 problem over was init (init_is ∙ some.1)

  pub built_for : IsBuiltFor n class (with_init problem init)
  built_for =
      let of : (q : Prefix) → Contains class.prefixes q → IsProblemOf n q (with_init problem init) =
      λ q at. restarted n network_is old_prefix.0 q problem over was init (init_is ∙ starts_of_class n class q has at) in
      record {
        of = of;
        order = before.2.order;
        acts = λ q at. ospf_first_acts n q (with_init problem init) over (of q at);
      }
