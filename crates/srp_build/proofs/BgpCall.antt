-- What `bgp_problem` makes is the problem of the class.
use Rattle.std.proofs.Common.{◌≡◌, ℕ, ◌<◌, ◌^◌, Bool, List, map, length, Option, Some, sym, ◌∙◌, subst}
use Rattle.std.specs.Prelude.{All, Contains, slice_get}
use Rattle.base_kit.specs.declared.act_graph.Edge.{Edge}
use Rattle.base_kit.specs.declared.protocol.Protocol.TheVariants.{Bgp as OverBgp}
use Rattle.base_kit.specs.Prefixes.{Prefix}
use Rattle.base_kit.proofs.Elements.{contains_in, get_in}
use Rattle.by_key.proofs.KeyedItems.{all_from}
use Rattle.cfg_ast.specs.declared.classes.DestClass.{DestClass}
use Rattle.cfg_ast.specs.declared.network.Network.{Network}
use Rattle.cfg_ast.specs.declared.network.Router.{Router}
use Rattle.cfg_ast.specs.meaning.Classes.{classes_of}
use Rattle.dd_core.specs.Sets.{Shown}
use Rattle.srp_core.specs.declared.route.Act.{Act}
use Rattle.srp_core.specs.declared.route.Route.{Route}
use Rattle.srp_core.specs.Acts.{KeepsSets}
use Rattle.srp_core.specs.Problem.{Problem, IsProblem}
use Rattle.srp_core.specs.ProblemOf.{as_number_of, IsProblemOf}
use Rattle.srp_build.specs.declared.acts.BgpAct.{BgpAct}
use Rattle.srp_build.specs.declared.bgp_edges.BgpEdges.{BgpEdges}
use Rattle.srp_build.specs.declared.hops.Hop.{Hop}
use Rattle.srp_build.specs.ActOrder.{AreActsByFirstUse}
use Rattle.srp_build.specs.Bgp.{IsBgp}
use Rattle.srp_build.specs.BgpEdges.{IsLeftOut, IsEdgeOfSession, AreEdgesOfSessions}
use Rattle.srp_build.specs.Built.{IsBuiltFor}
use Rattle.srp_build.specs.FirstActs.{HasFirstActs}
use Rattle.srp_build.specs.HopEdges.{edge_with}
use Rattle.srp_build.specs.LineMaps.{LineMaps, AreLineMaps}
use Rattle.srp_build.specs.Lines.{act_of_hop}
use Rattle.srp_build.specs.Lone.{AreLone}
use Rattle.srp_build.specs.Starts.{starts_from}
use Rattle.srp_build.proofs.BgpBuilt.{rules, problem_is, acts_in_order, first_acts}
use Rattle.srp_build.proofs.BgpParts.{SessionsImport, InMapsAddNothing, AreBgpParts, made}
use Rattle.srp_build.proofs.FirstUse.{within_get}
use Rattle.srp_build.proofs.LinkPlaces.{sorted_of}
use Rattle.srp_build.proofs.MapsOfClass.{maps_of_class}
use Rattle.srp_build.proofs.SortedEdges.{from, importer_in}
use Rattle.srp_build.proofs.StartsOfClass.{starts_of_class}

pub first_in : (class : DestClass) (p : Prefix) → slice_get class.prefixes 0 ≡ Some p → Contains class.prefixes p
first_in class p at = contains_in class.prefixes p (get_in class.prefixes 0 p at)

-- the edges as the code makes them
pub sorted_edges : (n : Network) (routers : List Router) (init read_init : List (Option Route)) (maps : LineMaps) (shown : Shown) (hops : List Hop)
    (found : BgpEdges) → routers ≡ n.routers → read_init ≡ init
    → hops ≡ sorted_of n → AreEdgesOfSessions shown routers read_init maps hops found → AreEdgesOfSessions shown n.routers init maps (sorted_of n) found
sorted_edges n routers init read_init maps shown hops found routers_are init_is sorted edges =
    subst (λ (h : List Hop). AreEdgesOfSessions shown n.routers init maps h found) sorted
    (subst (λ (i : List (Option Route)). AreEdgesOfSessions shown n.routers i maps hops found) init_is
    (subst (λ (r : List Router). AreEdgesOfSessions shown r read_init maps hops found) routers_are edges))

same_ends : (routers : List Router) (init : List (Option Route)) (maps : LineMaps) (acts : List BgpAct) (hop : Hop) (edge : Edge) →
    IsEdgeOfSession routers init maps acts hop edge → edge ≡ edge_with edge.act hop
same_ends routers init maps acts hop edge has = has.same

module _ (n : Network) (shown : Shown) (init : List (Option Route)) (maps : LineMaps) (found : BgpEdges)
    (edges : AreEdgesOfSessions shown n.routers init maps (sorted_of n) found) where
  abbrev acts_there : List BgpAct
  acts_there = found.acts.acts.items

  pub importers_inside : All (λ (e : Edge). e.importer < length n.routers) found.edges
  importers_inside = all_from (λ (e : Edge). e.importer < length n.routers) found.edges
      (λ e at. importer_in n (IsEdgeOfSession n.routers init maps acts_there) (IsLeftOut n.routers init maps) (same_ends n.routers init maps acts_there)
      found.edges edges.each e (contains_in found.edges e at))

  pub acts_inside : All (λ (e : Edge). e.act < length acts_there) found.edges
  acts_inside = all_from (λ (e : Edge). e.act < length acts_there) found.edges (λ e at. (
      let f = from n (IsEdgeOfSession n.routers init maps acts_there) (IsLeftOut n.routers init maps) (same_ends n.routers init maps acts_there) found.edges
      edges.each e (contains_in found.edges e at) in
      within_get acts_there e.act f.has.act.act f.has.act.at))

-- what the code has made for a class, with the maps of its first prefix
pub record IsCall (n : Network) (class : DestClass) (first : Prefix) (names : List (List ℕ)) (numbers : List ℕ) (init : List (Option Route)) (lone : List Bool)
    (acts : List Act) (maps : LineMaps) (shown : Shown) (found : BgpEdges) : Type 0 where
  pub bgp : IsBgp n
  pub sessions_import : SessionsImport
  pub add_nothing : InMapsAddNothing
  pub class_in : Contains (classes_of n) class
  pub first_in : Contains class.prefixes first
  pub init_is : init ≡ starts_from 0 class.origins n.routers
  pub lines : AreLineMaps first n.routers maps
  pub edges : AreEdgesOfSessions shown n.routers init maps (sorted_of n) found
  pub marks : AreLone shown found.acts.acts.items (length n.routers) found.edges lone
  pub names_are : names ≡ map (λ (router : Router). router.name) n.routers
  pub numbers_are : numbers ≡ map as_number_of n.routers
  pub acts_are : acts ≡ map (λ (act : BgpAct). act_of_hop first n.routers act.first) found.acts.acts.items

module _ (n : Network) (class : DestClass) (first : Prefix) (names : List (List ℕ)) (numbers : List ℕ) (init : List (Option Route)) (lone : List Bool)
    (acts : List Act) (maps : LineMaps) (shown : Shown) (found : BgpEdges) (call : IsCall n class first names numbers init lone acts maps shown found) where
  parts_for : (p : Prefix) → Contains class.prefixes p → length (sorted_of n) < 2 ^ 32 → AreBgpParts n first p init lone maps shown found
  parts_for p at few = record {
    bgp = call.bgp;
    sessions_import = call.sessions_import;
    add_nothing = call.add_nothing;
    starts = call.init_is ∙ starts_of_class n class p call.class_in at;
    lines = call.lines;
    edges = call.edges;
    marks = call.marks;
    alike = λ router has name list inbound. maps_of_class n class first p call.class_in call.first_in at router has name list inbound;
    few = few;
  }

  abbrev pub with_parts : List (List ℕ) → List ℕ → List Act → Problem
  with_parts names numbers acts = record { protocol = OverBgp; names = names; numbers = numbers; init = init; lone = lone; acts = acts; edges = found.edges }

  made_is : (p : Prefix) (at : Contains class.prefixes p) (few : length (sorted_of n) < 2 ^ 32) →
      with_parts names numbers acts ≡ made n first p init lone maps shown found (parts_for p at few)
  made_is p at few = λ j. with_parts (call.names_are j) (call.numbers_are j) (call.acts_are j)

  pub rules_kept : length (sorted_of n) < 2 ^ 32 → All KeepsSets acts → IsProblem (with_parts names numbers acts)
  rules_kept few keeps =
      subst IsProblem (sym (made_is first call.first_in few))
      (rules n first first init lone maps shown found (parts_for first call.first_in few) (subst (λ (l : List Act). All KeepsSets l) call.acts_are keeps))

  pub is_built : length (sorted_of n) < 2 ^ 32 → (problem : Problem) → problem ≡ with_parts names numbers acts → IsProblem problem → IsBuiltFor n class problem
  is_built few problem is kept = subst (IsBuiltFor n class) (sym is) (record {
    of = λ p at. (let parts = parts_for p at few in
        subst (IsProblemOf n p) (sym (made_is p at few))
        (problem_is n first p init lone maps shown found parts (subst IsProblem (is ∙ made_is p at few) kept)));
    order = subst AreActsByFirstUse (sym (made_is first call.first_in few))
        (acts_in_order n first first init lone maps shown found (parts_for first call.first_in few));
    acts = λ p at. subst (HasFirstActs n p) (sym (made_is p at few)) (first_acts n first p init lone maps shown found (parts_for p at few));
  })
