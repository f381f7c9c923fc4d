-- A problem without one link, where no router is lone.
use Rattle.std.proofs.Common.{◌≡◌, ℕ, ◌<◌, ◌≤◌, ◌^◌, Bool, true, false, cond, List, [], ◌∷◌, length, refl, arith, inl, inr, ◌⊎◌}
use Rattle.std.specs.Prelude.{Contains, filter}
use Rattle.std.specs.List.{AllByRecursion}
use Rattle.std.proofs.lemmas.List.Elements.{All-from_recursion, recursion_from_All}
use Rattle.base_kit.specs.declared.act_graph.Edge.{Edge}
use Rattle.base_kit.specs.declared.protocol.Protocol.{Protocol}
use Rattle.base_kit.specs.declared.protocol.Protocol.TheVariants.{Bgp as OverBgp, Ospf as OverOspf}
use Rattle.base_kit.proofs.Elements.{contains_in, in_contains, filter_in}
use Rattle.route_run.specs.Rounds.{HasNoLone}
use Rattle.srp_core.specs.Problem.{Problem, Accepts, IsLone, Precedes, AreOrdered, IsProblem}
use Rattle.srp_core.specs.Without.{is_left, IsWithout}
use Rattle.spare_links.specs.Spare.{link_down}

-- ---- what is left of a list

was_there : {X : Type 0} (p : X → Bool) (xs : List X) (x : X) → Contains (filter p xs) x → Contains xs x
was_there p xs x h = contains_in xs x (filter_in p xs x (in_contains (filter p xs) x h)).0

no_more : {X : Type 0} (p : X → Bool) (xs : List X) → length (filter p xs) ≤ length xs
no_more p [] = omega arith
no_more {X} p (x ∷ xs) = by (p x) (no_more p xs)
  where
    by : (b : Bool) → length (filter p xs) ≤ length xs → length (cond b (x ∷ filter p xs) (filter p xs)) ≤ length (x ∷ xs)
    by true h = omega arith
    by false h = omega arith

all_left : {X : Type 0} (P : X → Type 0) (p : X → Bool) (xs : List X) → AllByRecursion P xs → AllByRecursion P (filter p xs)
all_left P p [] all = tt
all_left {X} P p (x ∷ xs) all = by (p x) (all_left P p xs all.1)
  where
    by : (b : Bool) → AllByRecursion P (filter p xs) → AllByRecursion P (cond b (x ∷ filter p xs) (filter p xs))
    by true h = (all.0, h)
    by false h = h

ordered_left : (p : Edge → Bool) (edges : List Edge) → AreOrdered edges → AreOrdered (filter p edges)
ordered_left p [] ordered = tt
ordered_left p (edge ∷ edges) ordered = by (p edge) (ordered_left p edges ordered.1)
  where
    by : (b : Bool) → AreOrdered (filter p edges) → AreOrdered (cond b (edge ∷ filter p edges) (filter p edges))
    by true h = (
      All-from_recursion (Precedes edge) (filter p edges)
          (all_left (Precedes edge) p edges (recursion_from_All (Precedes edge) edges ordered.0)),
      h,
    )
    by false h = h

-- ---- what is left of a problem

pub cases_protocol : (p : Protocol) → (p ≡ OverBgp) ⊎ (p ≡ OverOspf)
cases_protocol OverBgp = inl refl
cases_protocol OverOspf = inr refl

module _ (P : Problem) (good : IsProblem P) (none : HasNoLone P) (link : ℕ) where
  abbrev pub left_over : Problem
  left_over = record P { edges = filter (is_left (link_down link)) P.edges }

  was : (edge : Edge) → Contains left_over.edges edge → Contains P.edges edge
  was edge h = was_there (is_left (link_down link)) P.edges edge h

  accepts_before : (u preference : ℕ) → Accepts left_over u preference → Accepts P u preference
  accepts_before u preference a = record {
    edge = a.edge;
    edge_in = was a.edge a.edge_in;
    importer = a.importer;
    comms = a.comms;
    is_set = a.is_set;
    imported = a.imported;
    accepted = a.accepted;
    preferred = a.preferred;
  }

  lone_before : (u : ℕ) → IsLone left_over u → IsLone P u
  lone_before u l = record {
    unoriginated = l.unoriginated;
    first = l.first;
    second = l.second;
    first_accepted = accepts_before u l.first l.first_accepted;
    second_accepted = accepts_before u l.second l.second_accepted;
    differ = l.differ;
  }

  few : length left_over.edges < 2 ^ 32
  few = let most = no_more (is_left (link_down link)) P.edges in let bound = good.tables.few_edges in omega arith

  left_rules : IsProblem left_over
  left_rules = record {
    tables = record {
      few_routers = good.tables.few_routers;
      few_edges = few;
      names = good.tables.names;
      init = good.tables.init;
      lone = good.tables.lone;
    };
    edges = record {
      inside = λ edge h. let i = good.edges.inside edge (was edge h) in
          record { importer_in = i.importer_in; exporter_in = i.exporter_in; differ = i.differ; act_in = i.act_in };
      ordered = ordered_left (is_left (link_down link)) P.edges good.edges.ordered;
      one_of_link = λ edge other h h' e l. good.edges.one_of_link edge other (was edge h) (was other h') e l;
    };
    acts = record { fit = good.acts.fit; keep = good.acts.keep; differ = good.acts.differ };
    starts = record {
      routes = good.starts.routes;
      paths = good.starts.paths;
      bare = good.starts.bare;
      unoriginated = λ bgp edge h. good.starts.unoriginated bgp edge (was edge h);
    };
    numbers = λ bgp. let n = good.numbers bgp in record {
      originators = n.originators;
      importers = λ edge h. n.importers edge (was edge h);
      exporters = λ edge h. n.exporters edge (was edge h);
      distinct = n.distinct;
    };
    marks = record {
      only = λ u lt e. let unmarked = none u lt in absurd cc;
      all = λ u lt l. good.marks.all u lt (lone_before u l);
    };
  }

  pub is_without : IsWithout P (link_down link) left_over
  is_without = record { rules = left_rules; protocol = refl; names = refl; numbers = refl; acts = refl; init = λ u. refl; edges = refl }
