-- A problem with canonical acts keeps the rules, and is alike the old one.
use Rattle.std.proofs.Common.{◌≡◌, ℕ, suc, ◌<◌, List, [], ◌∷◌, length, refl, sym, ◌∙◌, subst, arith, inl, inr}
use Rattle.std.specs.Prelude.{All, Contains, slice_index_or}
use Rattle.std.specs.List.{AllByRecursion}
use Rattle.std.proofs.lemmas.List.Elements.{All-from_recursion, recursion_from_All}
use Rattle.base_kit.specs.declared.act_graph.Edge.{Edge}
use Rattle.base_kit.proofs.Elements.{In, contains_in}
use Rattle.srp_core.specs.declared.route.Act.{Act}
use Rattle.srp_core.specs.declared.route.Act.TheVariants.{Cost}
use Rattle.srp_core.specs.Acts.{ActsAlike, IsActOf, KeepsSets}
use Rattle.srp_core.specs.Alike.{AllEdgesAlike, ProblemsAlike}
use Rattle.srp_core.specs.Problem.{Problem, act_of, Accepts, IsLone, IsProblem}
use Rattle.srp_core.proofs.Alike.{imports_alike}
use Rattle.srp_core.proofs.GroupMatching.{alike_sym, alike_trans}
use Rattle.canon_policy.specs.CanonicalProblem.{IsCanonicalProblem}
use Rattle.srp_core.specs.ActMaps.{IsPrintableAct, IsActWithin}
use Rattle.canon_policy.specs.MadeActs.{act_at_place, AreCanonicalActs}
use Rattle.canon_policy.proofs.ActsSoFar.{at_index}

-- what holds at each place holds of all
pub from_index : {X : Type 0} (P : X → Type 0) (d : X) (xs : List X) → ((i : ℕ) → i < length xs → P (slice_index_or xs i d)) → AllByRecursion P xs
from_index P d [] each = tt
from_index P d (x ∷ xs) each = (each 0 (omega arith), from_index P d xs (λ i lt. each (suc i) (omega arith)))

module _ (universe : List ℕ) (old : Problem) (acts : List Act) (made : AreCanonicalActs universe old acts) where
  abbrev pub new : Problem
  new = record old { acts = acts }

  each_alike : (i : ℕ) → i < length old.acts → ActsAlike (act_at_place old.acts i) (act_at_place acts i)
  each_alike i lt = (made.each i lt).alike

  pub all_printable : AllByRecursion IsPrintableAct acts
  all_printable = from_index IsPrintableAct (Cost 0) acts (λ i lt. (made.each i (let n = made.count in omega arith)).printable)

  pub all_named : AllByRecursion (IsActWithin universe) acts
  all_named = from_index (IsActWithin universe) (Cost 0) acts (λ i lt. (made.each i (let n = made.count in omega arith)).within)

  canonical_new : IsCanonicalProblem universe old new
  canonical_new = record {
    protocol = refl;
    names = refl;
    numbers = refl;
    init = refl;
    lone = refl;
    edges = refl;
    count = made.count;
    used = made.used;
    unused = made.unused;
  }

  module _ (rules : IsProblem old) where
    edge_alike : (edge : Edge) → Contains old.edges edge → ActsAlike (act_of old edge) (act_of new edge)
    edge_alike edge h = each_alike edge.act (rules.edges.inside edge h).act_in

    edges_alike : (edges : List Edge) → ((edge : Edge) → In edges edge → Contains old.edges edge) → AllEdgesAlike old new edges edges
    edges_alike [] inside = tt
    edges_alike (edge ∷ edges) inside = (
      record { importer = refl; exporter = refl; link = refl; acts = edge_alike edge (inside edge (inl refl)) },
      edges_alike edges (λ e h. inside e (inr h)),
    )

    alike_new : ProblemsAlike old new
    alike_new = record {
      protocol = refl;
      names = refl;
      numbers = refl;
      init = refl;
      lone = refl;
      edges = edges_alike old.edges (λ edge h. contains_in old.edges edge h);
    }

    accepts_new : (u preference : ℕ) → Accepts old u preference → Accepts new u preference
    accepts_new u preference a = record {
      edge = a.edge;
      edge_in = a.edge_in;
      importer = a.importer;
      comms = a.comms;
      is_set = a.is_set;
      imported = a.imported;
      accepted = sym (imports_alike (act_of old a.edge) (act_of new a.edge) (edge_alike a.edge a.edge_in) a.comms a.is_set) ∙ a.accepted;
      preferred = a.preferred;
    }

    accepts_old : (u preference : ℕ) → Accepts new u preference → Accepts old u preference
    accepts_old u preference a = record {
      edge = a.edge;
      edge_in = a.edge_in;
      importer = a.importer;
      comms = a.comms;
      is_set = a.is_set;
      imported = a.imported;
      accepted = imports_alike (act_of old a.edge) (act_of new a.edge) (edge_alike a.edge a.edge_in) a.comms a.is_set ∙ a.accepted;
      preferred = a.preferred;
    }

    lone_new : (u : ℕ) → IsLone old u → IsLone new u
    lone_new u l = record {
      unoriginated = l.unoriginated;
      first = l.first;
      second = l.second;
      first_accepted = accepts_new u l.first l.first_accepted;
      second_accepted = accepts_new u l.second l.second_accepted;
      differ = l.differ;
    }

    lone_old : (u : ℕ) → IsLone new u → IsLone old u
    lone_old u l = record {
      unoriginated = l.unoriginated;
      first = l.first;
      second = l.second;
      first_accepted = accepts_old u l.first l.first_accepted;
      second_accepted = accepts_old u l.second l.second_accepted;
      differ = l.differ;
    }

    in_old : (i : ℕ) → i < length acts → i < length old.acts
    in_old i lt = let n = made.count in omega arith

    acts_differ : (i j : ℕ) → i < length acts → j < length acts → ActsAlike (act_at_place acts i) (act_at_place acts j) → i ≡ j
    acts_differ i j lt lt' same =
        rules.acts.differ i j (in_old i lt) (in_old j lt')
        (alike_trans (act_at_place old.acts i) (act_at_place acts i) (act_at_place old.acts j) (each_alike i (in_old i lt))
        (alike_trans (act_at_place acts i) (act_at_place acts j) (act_at_place old.acts j) same
        (alike_sym (act_at_place old.acts j) (act_at_place acts j) (each_alike j (in_old j lt')))))

    acts_fit : All (IsActOf old.protocol) acts
    acts_fit =
        All-from_recursion (IsActOf old.protocol) acts (from_index (IsActOf old.protocol) (Cost 0) acts (λ i lt.
        (made.each i (in_old i lt)).fits old.protocol
        (at_index (IsActOf old.protocol) old.acts i (Cost 0) (in_old i lt) (recursion_from_All (IsActOf old.protocol) old.acts rules.acts.fit))))

    rules_kept : All KeepsSets acts → IsProblem new
    rules_kept keep = record {
      tables = record {
        few_routers = rules.tables.few_routers;
        few_edges = rules.tables.few_edges;
        names = rules.tables.names;
        init = rules.tables.init;
        lone = rules.tables.lone;
      };
      edges = record {
        inside = λ edge h.
            let i = rules.edges.inside edge h in
            let n = made.count in
            let act_in = i.act_in in
            record { importer_in = i.importer_in; exporter_in = i.exporter_in; differ = i.differ; act_in = omega arith };
        ordered = rules.edges.ordered;
        one_of_link = rules.edges.one_of_link;
      };
      acts = record { fit = acts_fit; keep = keep; differ = acts_differ };
      starts = record {
        routes = rules.starts.routes;
        paths = rules.starts.paths;
        bare = rules.starts.bare;
        unoriginated = rules.starts.unoriginated;
      };
      numbers = λ bgp.
          let n = rules.numbers bgp in
          record { originators = n.originators; importers = n.importers; exporters = n.exporters; distinct = n.distinct };
      marks = record { only = λ u lt e. lone_new u (rules.marks.only u lt e); all = λ u lt l. rules.marks.all u lt (lone_old u l) };
    }

    -- a problem with these parts
    module _ (p : Problem) (protocol : p.protocol ≡ old.protocol) (names : p.names ≡ old.names) (numbers : p.numbers ≡ old.numbers) (init : p.init ≡ old.init)
        (lone : p.lone ≡ old.lone) (of_acts : p.acts ≡ acts) (edges : p.edges ≡ old.edges) where
      same : new ≡ p
      same = sym (λ i. record {
        protocol = protocol i;
        names = names i;
        numbers = numbers i;
        init = init i;
        lone = lone i;
        acts = of_acts i;
        edges = edges i;
      })

      pub keeps_rules : All KeepsSets p.acts → IsProblem p
      keeps_rules keep = subst IsProblem same (rules_kept (subst (All KeepsSets) of_acts keep))

      pub is_canonical : IsCanonicalProblem universe old p
      is_canonical = subst (IsCanonicalProblem universe old) same canonical_new

      pub is_alike : ProblemsAlike old p
      is_alike = subst (ProblemsAlike old) same alike_new

      pub is_printable : AllByRecursion IsPrintableAct p.acts
      is_printable = subst (AllByRecursion IsPrintableAct) (sym of_acts) all_printable

      pub is_named : AllByRecursion (IsActWithin universe) p.acts
      is_named = subst (AllByRecursion (IsActWithin universe)) (sym of_acts) all_named
