-- A problem of a network is a problem of each network that is the same except for line numbers.
use Rattle.std.proofs.Common.{◌≡◌, ℕ, List, Option, Some, None, map, refl, sym, ap, ◌∙◌, inl, inr}
use Rattle.std.specs.Prelude.{slice_get}
use Rattle.std.specs.Option.{option_map}
use Rattle.std.proofs.lemmas.Option.{slice_get-map}
use Rattle.base_kit.specs.declared.protocol.Protocol.{Protocol}
use Rattle.base_kit.specs.declared.protocol.Protocol.TheVariants.{Bgp as OverBgp, Ospf as OverOspf}
use Rattle.base_kit.specs.declared.act_graph.Edge.{Edge}
use Rattle.base_kit.specs.Prefixes.{Prefix}
use Rattle.cfg_ast.specs.declared.bgp.Neighbor.{Neighbor}
use Rattle.cfg_ast.specs.declared.network.Network.{Network}
use Rattle.cfg_ast.specs.declared.network.Router.{Router}
use Rattle.cfg_ast.specs.declared.topology.Link.{Link}
use Rattle.cfg_ast.specs.meaning.Topology.{links_of, neighbors_of, cost_of}
use Rattle.cfg_ast.specs.printing.Bare.{bare_neighbor, bare_router}
use Rattle.route_maps.specs.Sessions.{session_import}
use Rattle.srp_core.specs.declared.route.Act.{Act}
use Rattle.srp_core.specs.declared.route.Act.TheVariants.{Import, Cost}
use Rattle.srp_core.specs.Problem.{Problem, act_of}
use Rattle.srp_core.specs.ProblemOf.{as_number_of, start_route, Direction, IsDirection, SessionEnds, IsEdgeDirection, MeansLink, StandsFor}
use Rattle.line_number_laws.specs.Laws.{ProblemAside}
use Rattle.line_number_laws.proofs.Interfaces.{cost_bare, neighbors_bare, as_number_bare, start_route_bare}
use Rattle.line_number_laws.proofs.Links as links
use Rattle.line_number_laws.proofs.Mapped.{map_mapped}
use Rattle.line_number_laws.proofs.Policy.{session_import_bare}

-- A function that does not depend on what `h` changes has the same value on two items that `h` makes
-- one.
same_of : {A B : Type 0} (h : A → A) (f : A → B) → ((x : A) → f (h x) ≡ f x) → (x y : A) → h x ≡ h y → f x ≡ f y
same_of h f aside x y same = sym (aside x) ∙ ap f same ∙ aside y

-- An item at a place of the one list has one at that place of the other.
pub record IsTwin {A : Type 0} (h : A → A) (xs : List A) (k : ℕ) (x : A) : Type 0 where
  pub twin : A
  pub at : slice_get xs k ≡ Some twin
  pub same : h twin ≡ h x

twin_at : {A : Type 0} (h : A → A) (xs ys : List A) (k : ℕ) (y : A) → map h xs ≡ map h ys → slice_get ys k ≡ Some y → IsTwin h xs k y
twin_at {A} h xs ys k y same at = found (slice_get xs k) refl (sym (slice_get-map h xs k) ∙ ap (λ zs. slice_get zs k) same ∙ slice_get-map h ys k
    ∙ ap (option_map h) at)
  where
    found : (o : Option A) → slice_get xs k ≡ o → option_map h o ≡ Some (h y) → IsTwin h xs k y
    found None is none = absurd cc
    found (Some x) is some = record { twin = x; at = is; same = cc }

pub record AreTwins (m n : Network) : Type 0 where
  pub routers : map bare_router m.routers ≡ map bare_router n.routers
  pub links : links_of m ≡ links_of n

-- The ends of a session.

pub record HasEnds (m : Network) (d : Direction) (exporter : Router) (out : Neighbor) (importer : Router) (into : Neighbor) : Type 0 where
  pub ends : SessionEnds m d
  pub exporters : bare_router ends.exporter ≡ bare_router exporter
  pub outs : bare_neighbor ends.exporter_line ≡ bare_neighbor out
  pub importers : bare_router ends.importer ≡ bare_router importer
  pub intos : bare_neighbor ends.importer_line ≡ bare_neighbor into

neighbors_alike : (r s : Router) → bare_router r ≡ bare_router s → map bare_neighbor (neighbors_of r) ≡ map bare_neighbor (neighbors_of s)
neighbors_alike r s same = sym (neighbors_bare r) ∙ ap neighbors_of same ∙ neighbors_bare s

ends_aside : (m n : Network) → AreTwins m n → (d : Direction) (e : SessionEnds n d) → HasEnds m d e.exporter e.exporter_line e.importer e.importer_line
ends_aside m n twins d e =
    let exporter = twin_at bare_router m.routers n.routers d.exporter e.exporter twins.routers e.exporter_at in
    let importer = twin_at bare_router m.routers n.routers d.importer e.importer twins.routers e.importer_at in
    let out = twin_at bare_neighbor (neighbors_of exporter.twin) (neighbors_of e.exporter) d.exporter_item e.exporter_line
    (neighbors_alike exporter.twin e.exporter exporter.same) e.exporter_line_at in
    let into = twin_at bare_neighbor (neighbors_of importer.twin) (neighbors_of e.importer) d.importer_item e.importer_line
    (neighbors_alike importer.twin e.importer importer.same) e.importer_line_at in
    record {
      ends = record {
        exporter = exporter.twin;
        exporter_at = exporter.at;
        exporter_line = out.twin;
        exporter_line_at = out.at;
        importer = importer.twin;
        importer_at = importer.at;
        importer_line = into.twin;
        importer_line_at = into.at;
      };
      exporters = exporter.same;
      outs = out.same;
      importers = importer.same;
      intos = into.same;
    }

imports_alike : (p : Prefix) (e e' : Router) (o o' : Neighbor) (i i' : Router) (l l' : Neighbor) (comms : List ℕ)
    → bare_router e ≡ bare_router e' → bare_neighbor o ≡ bare_neighbor o' → bare_router i ≡ bare_router i' → bare_neighbor l ≡ bare_neighbor l'
    → session_import p e o i l comms ≡ session_import p e' o' i' l' comms
imports_alike p e e' o o' i i' l l' comms se so si sl =
    sym (session_import_bare p e o i l comms)
    ∙ ap (λ r. session_import p r (bare_neighbor o) (bare_router i) (bare_neighbor l) comms) se
    ∙ ap (λ q. session_import p (bare_router e') q (bare_router i) (bare_neighbor l) comms) so
    ∙ ap (λ r. session_import p (bare_router e') (bare_neighbor o') r (bare_neighbor l) comms) si
    ∙ ap (λ q. session_import p (bare_router e') (bare_neighbor o') (bare_router i') q comms) sl
    ∙ session_import_bare p e' o' i' l' comms

-- Directions, edges and what acts mean.

direction_aside : (m n : Network) → AreTwins m n → (d : Direction) → IsDirection n d → IsDirection m d
direction_aside m n twins d (inl at) = inl (ap (λ (ls : List Link). slice_get ls d.link) twins.links ∙ at)
direction_aside m n twins d (inr at) = inr (ap (λ (ls : List Link). slice_get ls d.link) twins.links ∙ at)

edge_aside : (m n : Network) → AreTwins m n → (q : Protocol) (p : Prefix) (d : Direction) → IsEdgeDirection q n p d → IsEdgeDirection q m p d
edge_aside m n twins OverOspf p d edge = tt
edge_aside m n twins OverBgp p d edge =
    let e = edge.ends in
    let t = ends_aside m n twins d e in
    record {
      ends = t.ends;
      unoriginated = same_of bare_router (start_route p) (start_route_bare p) t.ends.importer e.importer t.importers ∙ edge.unoriginated;
      comms = edge.comms;
      is_set = edge.is_set;
      imported = edge.imported;
      accepted = imports_alike p t.ends.exporter e.exporter t.ends.exporter_line e.exporter_line t.ends.importer e.importer t.ends.importer_line e.importer_line
          edge.comms t.exporters t.outs t.importers t.intos ∙ edge.accepted;
    }

means_aside : (m n : Network) → AreTwins m n → (p : Prefix) (d : Direction) (act : Act) → MeansLink n p d act → MeansLink m p d act
means_aside m n twins p d (Import out sends into) means =
    let e = means.ends in
    let t = ends_aside m n twins d e in
    record {
      ends = t.ends;
      same = λ comms set. means.same comms set
          ∙ sym (imports_alike p t.ends.exporter e.exporter t.ends.exporter_line e.exporter_line t.ends.importer e.importer t.ends.importer_line e.importer_line
          comms t.exporters t.outs t.importers t.intos);
    }
means_aside m n twins p d (Cost cost) means =
    let t = twin_at bare_router m.routers n.routers d.importer means.importer twins.routers means.importer_at in
    record {
      importer = t.twin;
      importer_at = t.at;
      same = same_of bare_router (λ r. cost_of r d.importer_item) (λ r. cost_bare r d.importer_item) t.twin means.importer t.same ∙ means.same;
    }

stands_aside : (m n : Network) → AreTwins m n → (problem : Problem) (p : Prefix) (edge : Edge) (d : Direction) → StandsFor problem n p edge d →
    StandsFor problem m p edge d
stands_aside m n twins problem p edge d stands = record {
  is_direction = direction_aside m n twins d stands.is_direction;
  is_edge = edge_aside m n twins problem.protocol p d stands.is_edge;
  link = stands.link;
  importer = stands.importer;
  exporter = stands.exporter;
  means = means_aside m n twins p d (act_of problem edge) stands.means;
}

-- a table of the routers
table_aside : {B : Type 0} (f : Router → B) → ((r : Router) → f (bare_router r) ≡ f r) → (m n : Network) → AreTwins m n → map f n.routers ≡ map f m.routers
table_aside f aside m n twins = sym (map_mapped bare_router f f aside n.routers) ∙ ap (map f) (sym twins.routers) ∙ map_mapped bare_router f f aside m.routers

pub aside : ProblemAside
aside m n p problem same protocols of =
    let twins : AreTwins m n = record { routers = ap (λ (k : Network). k.routers) same; links = links.aside m n same } in
    let back : AreTwins n m = record { routers = sym twins.routers; links = sym twins.links } in
    record {
      rules = of.rules;
      protocol = protocols ∙ of.protocol;
      names = of.names ∙ table_aside (λ (r : Router). r.name) (λ r. refl) m n twins;
      numbers = of.numbers ∙ table_aside as_number_of as_number_bare m n twins;
      init = of.init ∙ table_aside (start_route p) (start_route_bare p) m n twins;
      edges_stand = λ edge here. let stood = of.edges_stand edge here in (stood.0, stands_aside m n twins problem p edge stood.0 stood.1);
      edges_all = λ d is edge.
          let given = of.edges_all d (direction_aside n m back d is) (edge_aside n m back problem.protocol p d edge) in
          (given.0, given.1, stands_aside m n twins problem p given.0 d given.2);
    }
