-- The stable labels of the example with a lone router, its groups, and the problem of the groups.
use Rattle.std.proofs.Common.{◌≡◌, ◌≢◌, ◌⊎◌, ℕ, zero, suc, ◌<◌, ◌≤◌, true, [], ◌∷◌, Some, None, refl, sym, ap, ◌∙◌, subst, inl, inr, arith}
use Rattle.std.specs.Prelude.{Contains, slice_index_or}
use Rattle.std.specs.declared.cmp.Ordering.TheVariants.{Less}
use Rattle.base_kit.specs.declared.act_graph.Edge.{Edge}
use Rattle.base_kit.specs.declared.protocol.Protocol.TheVariants.{Bgp as OverBgp}
use Rattle.srp_core.specs.declared.route.Route.{Route}
use Rattle.srp_core.specs.Routes.{IsRouteOf, path_of, is_on, compare_keys}
use Rattle.srp_core.specs.Acts.{import_by, step_by, ActsAlike}
use Rattle.srp_core.specs.Candidates.{over}
use Rattle.srp_core.specs.Problem.{number, initial, is_lone, act_of, step_over, key_of, Precedes, IsProblem, IsEdgeOf}
use Rattle.srp_core.specs.Stability.{label, IsCandidateOver, IsCandidate, of_init, of_edge, IsStable}
use Rattle.srp_core.specs.Quotient.{group_of, IsAdmissible, Twin, IsFirstMember, first_number, IsUsed, originates, imports, Lies, IsQuotient, KeepsTables}
use Rattle.srp_core.specs.Laws.{Below}
use Rattle.srp_core.proofs.CandidateLists.{over_candidate, candidate_over}
use Rattle.srp_core.proofs.ExampleLone.{S, L, Q, groups, edge_of, first, parallel, preferred, onward, inner, outward, origin, learned, farther, around, looped, lengthens, each_edge, each_lower, each_router, each_group, all_with, all_none, init_is, lone_is, good}
use Rattle.srp_core.proofs.GroupMatching.{below}
use Rattle.srp_core.proofs.KeyOrder.{irreflexive, not_better, shorter}
use Rattle.srp_core.proofs.QuotientRules.{quotient_problem}
use Rattle.srp_core.proofs.Steps.{alike_self}

-- the loop check of the lone router drops the route that it would prefer
dropped : (step_over S preferred farther ≡ Some looped) × (is_on (number S 1) (path_of looped) ≡ true)
unfolding step_by import_by
dropped = (refl, refl)

over_first : over S L first ≡ Some learned
unfolding step_by import_by
over_first = refl

over_parallel : over S L parallel ≡ Some learned
unfolding step_by import_by
over_parallel = refl

over_preferred : over S L preferred ≡ None
unfolding step_by import_by
over_preferred = refl

over_onward : over S L onward ≡ Some farther
unfolding step_by import_by
over_onward = refl

over_inner : over S L inner ≡ Some around
unfolding step_by import_by
over_inner = refl

over_outward : over S L outward ≡ Some farther
unfolding step_by import_by
over_outward = refl

came : (e : Edge) (r c : Route) → over S L e ≡ Some r → IsCandidateOver S L e c → r ≡ c
came e r c is o = let there : Some r ≡ Some c = sym is ∙ candidate_over S L e c o in cc

-- a candidate is the label, or worse
as_good : (e : Edge) → Contains S.edges e → (r c : Route) → label L e.importer ≡ Some r → IsCandidateOver S L e c →
    compare_keys (key_of S c) (key_of S r) ≢ Less
as_good = each_edge (λ e. (r c : Route) → label L e.importer ≡ Some r → IsCandidateOver S L e c → compare_keys (key_of S c) (key_of S r) ≢ Less)
    (λ r c e o. same r c (came first learned c over_first o) e) (λ r c e o. same r c (came parallel learned c over_parallel o) e)
    (λ r c e o. (let there : None ≡ Some c = sym over_preferred ∙ candidate_over S L preferred c o in absurd (cc)))
    (λ r c e o. further r c (came onward farther c over_onward o) e)
    (λ r c e o. longer r c (came inner around c over_inner o) e)
    (λ r c e o. further r c (came outward farther c over_outward o) e)
  where
    same : (r c : Route) → learned ≡ c → Some learned ≡ Some r → compare_keys (key_of S c) (key_of S r) ≢ Less
    same r c is e = let one : learned ≡ r = cc in irreflexive (key_of S c) (key_of S r) (ap (key_of S) (sym is ∙ one))

    further : (r c : Route) → farther ≡ c → Some farther ≡ Some r → compare_keys (key_of S c) (key_of S r) ≢ Less
    further r c is e = let one : farther ≡ r = cc in irreflexive (key_of S c) (key_of S r) (ap (key_of S) (sym is ∙ one))

    longer : (r c : Route) → around ≡ c → Some farther ≡ Some r → compare_keys (key_of S c) (key_of S r) ≢ Less
    longer r c is e =
        let one : farther ≡ r = cc in
        let worse = not_better (key_of S farther) (key_of S around) (shorter (key_of S farther) (key_of S around) refl (omega arith)) in
        subst (λ x. compare_keys (key_of S c) (key_of S x) ≢ Less) one (subst (λ x. compare_keys (key_of S x) (key_of S farther) ≢ Less) is worse)

best : (u : ℕ) (r c : Route) → label L u ≡ Some r → IsCandidate S L u c → compare_keys (key_of S c) (key_of S r) ≢ Less
best u r c e (of_init i) = start (init_is u c i)
  where
    start : (u ≡ 0) × (origin ≡ c) → compare_keys (key_of S c) (key_of S r) ≢ Less
    start s =
        let there : Some origin ≡ Some r = subst (λ v. label L v ≡ Some r) s.0 e in
        let one : origin ≡ r = cc in
        irreflexive (key_of S c) (key_of S r) (ap (key_of S) (sym s.1 ∙ one))
best u r c e (of_edge d i imp o) = as_good d i r c (ap (label L) imp ∙ e) o

labelled : (u : ℕ) → u < 4 → label L u ≡ None → ⊥
labelled = each_router (λ v. label L v ≡ None → ⊥) (λ e. cc) (λ e. cc) (λ e. cc) (λ e. cc)

held_over : (e : Edge) → Contains S.edges e → (r s : Route) → over S L e ≡ Some s → s ≡ r → IsCandidate S L e.importer r
held_over e i r s is same = subst (IsCandidate S L e.importer) same (of_edge e i refl (over_candidate S L e s is))

held : (u : ℕ) (r : Route) → u < 4 → label L u ≡ Some r → IsCandidate S L u r
held u r h = each_router (λ v. label L v ≡ Some r → IsCandidate S L v r) (λ e. of_init e)
    (λ e. held_over first (0, omega arith, refl) r learned over_first (cc)) (λ e. held_over onward (3, omega arith, refl) r farther over_onward (cc))
    (λ e. held_over outward (5, omega arith, refl) r farther over_outward (cc)) u h

fits : (u : ℕ) (r : Route) → label L u ≡ Some r → IsRouteOf OverBgp r
fits zero r e = let k : origin ≡ r = cc in subst (IsRouteOf OverBgp) k tt
fits (suc zero) r e = let k : learned ≡ r = cc in subst (IsRouteOf OverBgp) k tt
fits (suc (suc zero)) r e = let k : farther ≡ r = cc in subst (IsRouteOf OverBgp) k tt
fits (suc (suc (suc zero))) r e = let k : farther ≡ r = cc in subst (IsRouteOf OverBgp) k tt
fits (suc (suc (suc (suc u)))) r e = absurd (cc)

stable : IsStable S L
stable = record {
  fitting = record { total = refl; routes = fits };
  none = λ u c h e. absurd (labelled u h e);
  held = λ u r h e. held u r h e;
  best = λ u r c h e k. best u r c e k;
}

together : (u v : ℕ) → u < 4 → v < 4 → group_of groups u ≡ group_of groups v → (u ≡ v) ⊎ ((2 ≤ u) × (2 ≤ v))
together u v h g = each_router (λ u. (v : ℕ) → v < 4 → group_of groups u ≡ group_of groups v → (u ≡ v) ⊎ ((2 ≤ u) × (2 ≤ v)))
    (each_router (λ v. 0 ≡ group_of groups v → (0 ≡ v) ⊎ ((2 ≤ 0) × (2 ≤ v))) (λ e. inl refl) (λ e. absurd (omega arith)) (λ e. absurd (omega arith))
    (λ e. absurd (omega arith)))
    (each_router (λ v. 1 ≡ group_of groups v → (1 ≡ v) ⊎ ((2 ≤ 1) × (2 ≤ v))) (λ e. absurd (omega arith)) (λ e. inl refl) (λ e. absurd (omega arith))
    (λ e. absurd (omega arith)))
    (each_router (λ v. 2 ≡ group_of groups v → (2 ≡ v) ⊎ ((2 ≤ 2) × (2 ≤ v))) (λ e. absurd (omega arith)) (λ e. absurd (omega arith)) (λ e. inl refl)
    (λ e. inr (omega arith, omega arith)))
    (each_router (λ v. 2 ≡ group_of groups v → (3 ≡ v) ⊎ ((2 ≤ 3) × (2 ≤ v))) (λ e. absurd (omega arith)) (λ e. absurd (omega arith))
    (λ e. inr (omega arith, omega arith)) (λ e. inl refl))
    u h v g

silent : (u : ℕ) → 2 ≤ u → initial S u ≡ None
silent zero h = absurd (omega arith)
silent (suc zero) h = absurd (omega arith)
silent (suc (suc zero)) h = refl
silent (suc (suc (suc zero))) h = refl
silent (suc (suc (suc (suc u)))) h = refl

-- each of the two routers of the group learns from router 1 in one way
twin_at : (v : ℕ) → v < 4 → 2 ≤ v → (e : Edge) → group_of groups e.exporter ≡ 1 → act_of S e ≡ lengthens → Twin S groups v e
twin_at v h = each_router (λ w. 2 ≤ w → (e : Edge) → group_of groups e.exporter ≡ 1 → act_of S e ≡ lengthens → Twin S groups w e)
    (λ l. absurd (omega arith)) (λ l. absurd (omega arith))
    (λ l e out act. record {
      other = onward;
      other_in = (3, omega arith, refl);
      importer = refl;
      exporter = sym out;
      alike =
          subst (λ x. ActsAlike x lengthens) (sym act) (alike_self lengthens);
    })
    (λ l e out act. record {
      other = outward;
      other_in = (5, omega arith, refl);
      importer = refl;
      exporter = sym out;
      alike =
          subst (λ x. ActsAlike x lengthens) (sym act) (alike_self lengthens);
    })
    v h

twins : (v : ℕ) → v < 4 → 2 ≤ v → (e : Edge) → Contains S.edges e → 2 ≤ e.importer → group_of groups e.exporter ≢ 2 → Twin S groups v e
twins v h l = each_edge (λ e. 2 ≤ e.importer → group_of groups e.exporter ≢ 2 → Twin S groups v e)
    (λ i. absurd (omega arith)) (λ i. absurd (omega arith)) (λ i. absurd (omega arith)) (λ i out. twin_at v h l onward refl refl) (λ i out. absurd (out refl))
    (λ i out. twin_at v h l outward refl refl)

in_group : (u : ℕ) → u < 4 → 2 ≤ u → group_of groups u ≡ 2
in_group = each_router (λ u. 2 ≤ u → group_of groups u ≡ 2) (λ l. absurd (omega arith)) (λ l. absurd (omega arith)) (λ l. refl) (λ l. refl)

admissible : IsAdmissible S groups
admissible = record {
  total = refl;
  origins = λ u v h g e. elim (together u v h g e) [ inl same ↦ ap (initial S) same | inr both ↦ silent u both.0 ∙ sym (silent v both.1) ];
  alone = λ u v h g e l. elim (together u v h g e) [ inl same ↦ same | inr both ↦ (let is = lone_is u l in let two = both.0 in absurd (omega arith)) ];
  twins = λ u v d h g e i imp out. elim (together u v h g e) [
    | inl same ↦ record { other = d; other_in = i; importer = imp ∙ same; exporter = refl; alike = alike_self (act_of S d) }
    | inr both ↦ twins v g both.1 d i (let two = both.0 in omega arith) (λ z. out (z ∙ sym (in_group u h both.0)))
  ];
}

lies : (e l : Edge) → group_of groups e.importer ≡ l.importer → group_of groups e.exporter ≡ l.exporter → l.importer ≢ l.exporter → act_of S e ≡ act_of Q l →
    Lies S Q groups e l
lies e l i x n a = record { importer = i; exporter = x; differ = n; alike = subst (ActsAlike (act_of S e)) a (alike_self (act_of S e)) }

used : (g : ℕ) → g < 3 → IsUsed Q g
used = each_group (IsUsed Q) (originates origin refl) (imports (edge_of 1 0 0 0) (0, omega arith, refl) refl)
    (imports (edge_of 2 1 2 1) (2, omega arith, refl) refl)

first_is : (g : ℕ) → g < 3 → number Q g ≡ first_number S.numbers groups g
unfolding first_number
first_is = each_group (λ g. number Q g ≡ first_number S.numbers groups g) refl refl refl

abbrev From : Edge → Type 0
From l = (e : Edge) × Contains S.edges e × Lies S Q groups e l

abbrev To : Edge → Type 0
To e = group_of groups e.importer ≢ group_of groups e.exporter → (l : Edge) × Contains Q.edges l × Lies S Q groups e l

quotient : IsQuotient S groups Q
quotient = record {
  protocol = refl;
  inside = each_router (λ u. group_of groups u < 3) (omega arith) (omega arith) (omega arith) (omega arith);
  onto = each_group (λ g. (u : ℕ) × (u < 4) × (group_of groups u ≡ g)) (0, omega arith, refl) (1, omega arith, refl) (2, omega arith, refl);
  names = each_router (λ v. IsFirstMember groups v → slice_index_or Q.names (group_of groups v) [] ≡ slice_index_or S.names v []) (λ f. refl) (λ f. refl)
      (λ f. refl) (λ f. absurd (f.first 2 (omega arith) refl));
  origins = each_router (λ u. initial Q (group_of groups u) ≡ initial S u) refl refl refl refl;
  lone = each_router (λ u. is_lone Q (group_of groups u) ≡ is_lone S u) refl refl refl refl;
  down = each_lower From
      (first, (0, omega arith, refl), lies first (edge_of 1 0 0 0) refl refl (λ z. omega arith) refl)
      (preferred, (2, omega arith, refl), lies preferred (edge_of 1 2 1 1) refl refl (λ z. omega arith) refl)
      (onward, (3, omega arith, refl), lies onward (edge_of 2 1 2 1) refl refl (λ z. omega arith) refl);
  up = each_edge To
      (λ n. (edge_of 1 0 0 0, (0, omega arith, refl), lies first (edge_of 1 0 0 0) refl refl (λ z. omega arith) refl))
      (λ n. (edge_of 1 0 0 0, (0, omega arith, refl), lies parallel (edge_of 1 0 0 0) refl refl (λ z. omega arith) refl))
      (λ n. (edge_of 1 2 1 1, (1, omega arith, refl), lies preferred (edge_of 1 2 1 1) refl refl (λ z. omega arith) refl))
      (λ n. (edge_of 2 1 2 1, (2, omega arith, refl), lies onward (edge_of 2 1 2 1) refl refl (λ z. omega arith) refl))
      (λ n. absurd (n refl))
      (λ n. (edge_of 2 1 2 1, (2, omega arith, refl), lies outward (edge_of 2 1 2 1) refl refl (λ z. omega arith) refl));
  numbers = λ g h u. first_is g h;
  unused = λ g h n. absurd (n (used g h));
}

is_lower : (importer exporter act link : ℕ) → importer < 3 → exporter < 3 → importer ≢ exporter → act < 3 → IsEdgeOf Q (edge_of importer exporter act link)
is_lower importer exporter act link i e d a = record { importer_in = i; exporter_in = e; differ = d; act_in = a }

-- no two edges of the groups have one importer and one link
apart : (e o : Edge) → Contains Q.edges e → Contains Q.edges o → e.importer ≡ o.importer → e.link ≡ o.link → e ≡ o
apart e o i j = each_lower (λ x. x.importer ≡ o.importer → x.link ≡ o.link → x ≡ o)
    (each_lower (λ y. 1 ≡ y.importer → 0 ≡ y.link → edge_of 1 0 0 0 ≡ y) (λ a b. refl) (λ a b. absurd (omega arith)) (λ a b. absurd (omega arith)) o j)
    (each_lower (λ y. 1 ≡ y.importer → 1 ≡ y.link → edge_of 1 2 1 1 ≡ y) (λ a b. absurd (omega arith)) (λ a b. refl) (λ a b. absurd (omega arith)) o j)
    (each_lower (λ y. 2 ≡ y.importer → 1 ≡ y.link → edge_of 2 1 2 1 ≡ y) (λ a b. absurd (omega arith)) (λ a b. absurd (omega arith)) (λ a b. refl) o j)
    e i

tables : KeepsTables S Q
tables = record {
  tables = record { few_routers = omega arith; few_edges = omega arith; names = refl; init = refl; lone = refl };
  edges = record {
    inside = each_lower (IsEdgeOf Q) (is_lower 1 0 0 0 (omega arith) (omega arith) (λ z. omega arith) (omega arith))
        (is_lower 1 2 1 1 (omega arith) (omega arith) (λ z. omega arith) (omega arith))
        (is_lower 2 1 2 1 (omega arith) (omega arith) (λ z. omega arith) (omega arith));
    ordered = (
      all_with (Precedes (edge_of 1 0 0 0)) (edge_of 1 2 1 1) (edge_of 2 1 2 1 ∷ []) (inr (refl, inl (omega arith)))
          (all_with (Precedes (edge_of 1 0 0 0)) (edge_of 2 1 2 1) [] (inl (omega arith)) (all_none (Precedes (edge_of 1 0 0 0)))),
      (
        all_with (Precedes (edge_of 1 2 1 1)) (edge_of 2 1 2 1) [] (inl (omega arith)) (all_none (Precedes (edge_of 1 2 1 1))),
        (all_none (Precedes (edge_of 2 1 2 1)), tt),
      ),
    );
    one_of_link = apart;
  };
  acts = refl;
}

good_below : IsProblem Q
good_below = quotient_problem S good groups admissible Q quotient tables

solution : Below S Q groups L
solution = below S good groups admissible Q good_below quotient L stable
