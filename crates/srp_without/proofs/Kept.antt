-- What is left of a problem keeps the rules of a problem.
use Rattle.std.proofs.Common.{◌≡◌, ℕ, ◌<◌, ◌^◌, Bool, true, false, cond, List, length, Option, Some, None, refl, sym, ◌∙◌, subst, arith, inl, inr, ◌⊎◌}
use Rattle.std.specs.Prelude.{Contains, filter, slice_index_or}
use Rattle.base_kit.specs.declared.act_graph.Edge.{Edge}
use Rattle.base_kit.specs.declared.protocol.Protocol.{Protocol}
use Rattle.base_kit.specs.declared.protocol.Protocol.TheVariants.{Bgp as OverBgp, Ospf as OverOspf}
use Rattle.srp_core.specs.declared.route.Route.{Route}
use Rattle.srp_core.specs.Acts.{IsActOf}
use Rattle.srp_core.specs.Problem.{Problem, count, initial, is_lone, act_of, Accepts, IsLone, IsProblem}
use Rattle.srp_core.specs.Without.{marked_down, is_left, IsWithout}
use Rattle.srp_core.proofs.Offers.{edge_act}
use Rattle.srp_core.proofs.Steps.{no_import_cost}
use Rattle.srp_without.specs.Accepting.{HasTwo, EdgesAccept, AreMarksOf}
use Rattle.srp_without.proofs.Starts.{AreStartsLeft}
use Rattle.srp_without.proofs.Filters.{left_was, no_more, ordered_left}

cases_protocol : (p : Protocol) → (p ≡ OverBgp) ⊎ (p ≡ OverOspf)
cases_protocol OverBgp = inl refl
cases_protocol OverOspf = inr refl

module _ (problem : Problem) (rules : IsProblem problem) (routers links : List Bool) where
  abbrev pub edges_left : List Edge
  edges_left = filter (is_left (marked_down routers links)) problem.edges

  -- ---- routers that accept two preferences

  -- who accepts anything does not originate
  accepting_silent : (edges : List Edge) → ((edge : Edge) → Contains edges edge → Contains problem.edges edge) → (u preference : ℕ) →
      EdgesAccept problem.acts edges u preference → initial problem u ≡ None
  accepting_silent edges inside u preference a = elim (cases_protocol problem.protocol) [
    | inl bgp ↦ subst (λ (v : ℕ). initial problem v ≡ None) a.importer (rules.starts.unoriginated bgp a.edge (inside a.edge a.edge_in))
    | inr ospf ↦ absurd (no_import_cost (act_of problem a.edge) a.accepted.comms a.accepted.imported
        (subst (λ q. IsActOf q (act_of problem a.edge)) ospf (edge_act problem rules a.edge (inside a.edge a.edge_in))) a.accepted.accepted)
  ]

  -- over edges of the problem only a marked router accepts two
  pub two_are_marked : (edges : List Edge) → ((edge : Edge) → Contains edges edge → Contains problem.edges edge) → (u : ℕ) → u < count problem →
      HasTwo (EdgesAccept problem.acts edges u) → is_lone problem u ≡ true
  two_are_marked edges inside u lt two = rules.marks.all u lt (record {
    unoriginated = accepting_silent edges inside u two.first two.first_accepted;
    first = two.first;
    second = two.second;
    first_accepted = accepts two.first two.first_accepted;
    second_accepted = accepts two.second two.second_accepted;
    differ = two.differ;
  })
    where
      accepts : (preference : ℕ) → EdgesAccept problem.acts edges u preference → Accepts problem u preference
      accepts preference a = record {
        edge = a.edge;
        edge_in = inside a.edge a.edge_in;
        importer = a.importer;
        comms = a.accepted.comms;
        is_set = a.accepted.is_set;
        imported = a.accepted.imported;
        accepted = a.accepted.accepted;
        preferred = a.accepted.preferred;
      }

  -- ---- what is left

  module _ (init : List (Option Route)) (lone : List Bool) (starts : AreStartsLeft problem.init routers init) (marks : AreMarksOf problem edges_left lone) where
    abbrev pub left_over : Problem
    left_over = record problem { init = init; lone = lone; edges = edges_left }

    was : (edge : Edge) → Contains edges_left edge → Contains problem.edges edge
    was edge h = left_was (is_left (marked_down routers links)) problem.edges edge h

    kept_start : (b : Bool) (o : Option Route) (r : Route) → cond b None o ≡ Some r → o ≡ Some r
    kept_start true o r e = absurd cc
    kept_start false o r e = e

    no_start : (b : Bool) (o : Option Route) → o ≡ None → cond b None o ≡ None
    no_start true o e = refl
    no_start false o e = e

    start_was : (u : ℕ) (r : Route) → slice_index_or init u None ≡ Some r → initial problem u ≡ Some r
    start_was u r e = kept_start (slice_index_or routers u false) (initial problem u) r (sym (starts.each u) ∙ e)

    silent : (u : ℕ) → initial problem u ≡ None → slice_index_or init u None ≡ None
    silent u e = starts.each u ∙ no_start (slice_index_or routers u false) (initial problem u) e

    accepts_left : (u preference : ℕ) → EdgesAccept problem.acts edges_left u preference → Accepts left_over u preference
    accepts_left u preference a = record {
      edge = a.edge;
      edge_in = a.edge_in;
      importer = a.importer;
      comms = a.accepted.comms;
      is_set = a.accepted.is_set;
      imported = a.accepted.imported;
      accepted = a.accepted.accepted;
      preferred = a.accepted.preferred;
    }

    left_accepts : (u preference : ℕ) → Accepts left_over u preference → EdgesAccept problem.acts edges_left u preference
    left_accepts u preference a = record {
      edge = a.edge;
      edge_in = a.edge_in;
      importer = a.importer;
      accepted = record { comms = a.comms; is_set = a.is_set; imported = a.imported; accepted = a.accepted; preferred = a.preferred };
    }

    two_lone : (u : ℕ) → HasTwo (EdgesAccept problem.acts edges_left u) → IsLone left_over u
    two_lone u two = record {
      unoriginated = silent u (accepting_silent edges_left was u two.first two.first_accepted);
      first = two.first;
      second = two.second;
      first_accepted = accepts_left u two.first two.first_accepted;
      second_accepted = accepts_left u two.second two.second_accepted;
      differ = two.differ;
    }

    lone_two : (u : ℕ) → IsLone left_over u → HasTwo (EdgesAccept problem.acts edges_left u)
    lone_two u l = record {
      first = l.first;
      second = l.second;
      first_accepted = left_accepts u l.first l.first_accepted;
      second_accepted = left_accepts u l.second l.second_accepted;
      differ = l.differ;
    }

    few : length edges_left < 2 ^ 32
    few = let most = no_more (is_left (marked_down routers links)) problem.edges in let bound = rules.tables.few_edges in omega arith

    pub left_rules : IsProblem left_over
    left_rules = record {
      tables = record {
        few_routers = rules.tables.few_routers;
        few_edges = few;
        names = rules.tables.names;
        init = starts.total ∙ rules.tables.init;
        lone = marks.total;
      };
      edges = record {
        inside = λ edge h. let i = rules.edges.inside edge (was edge h) in
            record { importer_in = i.importer_in; exporter_in = i.exporter_in; differ = i.differ; act_in = i.act_in };
        ordered = ordered_left (is_left (marked_down routers links)) problem.edges rules.edges.ordered;
        one_of_link = λ edge other h h' e l. rules.edges.one_of_link edge other (was edge h) (was other h') e l;
      };
      acts = record { fit = rules.acts.fit; keep = rules.acts.keep; differ = rules.acts.differ };
      starts = record {
        routes = λ u r e. rules.starts.routes u r (start_was u r e);
        paths = λ u r e. rules.starts.paths u r (start_was u r e);
        bare = λ u r e. rules.starts.bare u r (start_was u r e);
        unoriginated = λ bgp edge h. silent edge.importer (rules.starts.unoriginated bgp edge (was edge h));
      };
      numbers = λ bgp. let n = rules.numbers bgp in record {
        originators = λ u r e. n.originators u r (start_was u r e);
        importers = λ edge h. n.importers edge (was edge h);
        exporters = λ edge h. n.exporters edge (was edge h);
        distinct = n.distinct;
      };
      marks = record { only = λ u lt e. two_lone u (marks.only u lt e); all = λ u lt l. marks.all u lt (lone_two u l) };
    }

  -- a problem of these parts
  module _ (other : Problem) (protocol : other.protocol ≡ problem.protocol) (names : other.names ≡ problem.names) (numbers : other.numbers ≡ problem.numbers)
      (acts : other.acts ≡ problem.acts) (edges : other.edges ≡ edges_left) (starts : AreStartsLeft problem.init routers other.init)
      (marks : AreMarksOf problem other.edges other.lone) where
    same : left_over other.init other.lone starts (subst (λ (l : List Edge). AreMarksOf problem l other.lone) edges marks) ≡ other
    same = sym (λ i. record {
      protocol = protocol i;
      names = names i;
      numbers = numbers i;
      init = other.init;
      lone = other.lone;
      acts = acts i;
      edges = edges i;
    })

    pub keeps_rules : IsProblem other
    keeps_rules = subst IsProblem same (left_rules other.init other.lone starts (subst (λ (l : List Edge). AreMarksOf problem l other.lone) edges marks))

    pub is_without : IsWithout problem (marked_down routers links) other
    is_without = record {
      rules = keeps_rules;
      protocol = protocol;
      names = names;
      numbers = numbers;
      acts = acts;
      init = starts.each;
      edges = edges;
    }
