-- An example in OSPF in which all definitions hold together: one of two adjacent routers originates.
use Rattle.std.proofs.Common.{◌≡◌, ◌≢◌, ℕ, zero, suc, ◌<◌, true, false, List, [], ◌∷◌, Option, Some, None, refl, sym, ap, ◌∙◌, subst, inl, arith}
use Rattle.std.specs.Prelude.{Contains}
use Rattle.std.specs.declared.cmp.Ordering.TheVariants.{Less}
use Rattle.base_kit.specs.declared.act_graph.Edge.{Edge}
use Rattle.base_kit.specs.declared.protocol.Protocol.TheVariants.{Ospf as OverOspf}
use Rattle.srp_core.specs.declared.route.Act.TheVariants.{Cost}
use Rattle.srp_core.specs.declared.route.Route.{Route}
use Rattle.srp_core.specs.declared.route.Route.TheVariants.{Ospf}
use Rattle.srp_core.specs.Routes.{IsRouteOf, path_of, comms_of, compare_keys}
use Rattle.srp_core.specs.Acts.{import_by, step_by, IsActOf, KeepsSets}
use Rattle.srp_core.specs.Candidates.{over}
use Rattle.srp_core.specs.Problem.{Problem, initial, is_lone, act_of, key_of, Precedes, IsProblem, IsEdgeOf, IsLone}
use Rattle.srp_core.specs.Stability.{label, IsCandidateOver, IsCandidate, of_init, of_edge, IsStable}
use Rattle.srp_core.proofs.CandidateLists.{over_candidate, candidate_over}
use Rattle.srp_core.proofs.ExampleLone.{edge_of, all_with, all_none}
use Rattle.srp_core.proofs.KeyOrder.{irreflexive, not_better, shorter}

abbrev back : Edge
back = edge_of 0 1 0 0

abbrev forth : Edge
forth = edge_of 1 0 0 0

abbrev S : Problem
S = record {
  protocol = OverOspf;
  names = (97 ∷ []) ∷ (98 ∷ []) ∷ [];
  numbers = 0 ∷ 0 ∷ [];
  init = Some (Ospf 1) ∷ None ∷ [];
  lone = false ∷ false ∷ [];
  acts =
      Cost 10 ∷ [];
  edges = back ∷ forth ∷ [];
}

abbrev L : List (Option Route)
L = Some (Ospf 1) ∷ Some (Ospf 11) ∷ []

each_edge : (P : Edge → Type 0) → P back → P forth → (e : Edge) → Contains S.edges e → P e
each_edge P a b e (zero, l, h) = subst P h a
each_edge P a b e (suc zero, l, h) = subst P h b
each_edge P a b e (suc (suc n), l, h) = absurd (omega arith)

each_router : (P : ℕ → Type 0) → P 0 → P 1 → (u : ℕ) → u < 2 → P u
each_router P a b zero h = a
each_router P a b (suc zero) h = b
each_router P a b (suc (suc u)) h = absurd (omega arith)

init_is : (u : ℕ) (r : Route) → initial S u ≡ Some r → (u ≡ 0) × (Ospf 1 ≡ r)
init_is zero r e = (refl, cc)
init_is (suc zero) r e = absurd (cc)
init_is (suc (suc u)) r e = absurd (cc)

-- a cost imports nothing, so no router is lone
never_lone : (u : ℕ) → IsLone S u → ⊥
unfolding import_by
never_lone u l =
    let a = l.first_accepted in
    let none : import_by (act_of S a.edge) a.comms ≡ None = each_edge (λ e. import_by (act_of S e) a.comms ≡ None) refl refl a.edge a.edge_in in
    let some = a.accepted in
    cc

keeps : KeepsSets (Cost 10)
unfolding KeepsSets
keeps = tt

apart : (e o : Edge) → Contains S.edges e → Contains S.edges o → e.importer ≡ o.importer → e ≡ o
apart e o i j =
    each_edge (λ x. x.importer ≡ o.importer → x ≡ o) (each_edge (λ y. 0 ≡ y.importer → back ≡ y) (λ a. refl) (λ a. absurd (omega arith)) o j)
    (each_edge (λ y. 1 ≡ y.importer → forth ≡ y) (λ a. absurd (omega arith)) (λ a. refl) o j) e i

good : IsProblem S
good = record {
  tables = record { few_routers = omega arith; few_edges = omega arith; names = refl; init = refl; lone = refl };
  edges = record {
    inside = each_edge (IsEdgeOf S) (record { importer_in = omega arith; exporter_in = omega arith; differ = λ z. omega arith; act_in = omega arith })
        (record { importer_in = omega arith; exporter_in = omega arith; differ = λ z. omega arith; act_in = omega arith });
    ordered = (all_with (Precedes back) forth [] (inl (omega arith)) (all_none (Precedes back)), (all_none (Precedes forth), tt));
    one_of_link = λ e o i j importers links. apart e o i j importers;
  };
  acts = record {
    fit = all_with (IsActOf OverOspf) (Cost 10) [] (omega arith) (all_none (IsActOf OverOspf));
    keep =
        all_with KeepsSets (Cost 10) [] keeps (all_none KeepsSets);
    differ = λ i j h g a. omega arith;
  };
  starts = record {
    routes = λ u r e. subst (IsRouteOf OverOspf) (init_is u r e).1 tt;
    paths = λ u r e. sym (ap path_of (init_is u r e).1);
    bare = λ u r e. sym (ap comms_of (init_is u r e).1);
    unoriginated = λ e. absurd cc;
  };
  numbers = λ e. absurd cc;
  marks = record { only = λ u h t. absurd (each_router (λ v. is_lone S v ≡ true → ⊥) (λ e. cc) (λ e. cc) u h t); all = λ u h l. absurd (never_lone u l) };
}

over_back : over S L back ≡ Some (Ospf 21)
unfolding step_by
over_back = refl

over_forth : over S L forth ≡ Some (Ospf 11)
unfolding step_by
over_forth = refl

came : (e : Edge) (r c : Route) → over S L e ≡ Some r → IsCandidateOver S L e c → r ≡ c
came e r c is o = let there : Some r ≡ Some c = sym is ∙ candidate_over S L e c o in cc

as_good : (e : Edge) → Contains S.edges e → (r c : Route) → label L e.importer ≡ Some r → IsCandidateOver S L e c →
    compare_keys (key_of S c) (key_of S r) ≢ Less
as_good = each_edge (λ e. (r c : Route) → label L e.importer ≡ Some r → IsCandidateOver S L e c → compare_keys (key_of S c) (key_of S r) ≢ Less)
    (λ r c e o. longer r c (came back (Ospf 21) c over_back o) e)
    (λ r c e o. same r c (came forth (Ospf 11) c over_forth o) e)
  where
    same : (r c : Route) → Ospf 11 ≡ c → Some (Ospf 11) ≡ Some r → compare_keys (key_of S c) (key_of S r) ≢ Less
    same r c is e = let one : Ospf 11 ≡ r = cc in irreflexive (key_of S c) (key_of S r) (ap (key_of S) (sym is ∙ one))

    longer : (r c : Route) → Ospf 21 ≡ c → Some (Ospf 1) ≡ Some r → compare_keys (key_of S c) (key_of S r) ≢ Less
    longer r c is e =
        let one : Ospf 1 ≡ r = cc in
        let worse = not_better (key_of S (Ospf 1)) (key_of S (Ospf 21)) (shorter (key_of S (Ospf 1)) (key_of S (Ospf 21)) refl (omega arith)) in
        subst (λ x. compare_keys (key_of S c) (key_of S x) ≢ Less) one (subst (λ x. compare_keys (key_of S x) (key_of S (Ospf 1)) ≢ Less) is worse)

best : (u : ℕ) (r c : Route) → label L u ≡ Some r → IsCandidate S L u c → compare_keys (key_of S c) (key_of S r) ≢ Less
best u r c e (of_init i) = start (init_is u c i)
  where
    start : (u ≡ 0) × (Ospf 1 ≡ c) → compare_keys (key_of S c) (key_of S r) ≢ Less
    start s =
        let there : Some (Ospf 1) ≡ Some r = subst (λ v. label L v ≡ Some r) s.0 e in
        let one : Ospf 1 ≡ r = cc in
        irreflexive (key_of S c) (key_of S r) (ap (key_of S) (sym s.1 ∙ one))
best u r c e (of_edge d i imp o) = as_good d i r c (ap (label L) imp ∙ e) o

fits : (u : ℕ) (r : Route) → label L u ≡ Some r → IsRouteOf OverOspf r
fits zero r e = let k : Ospf 1 ≡ r = cc in subst (IsRouteOf OverOspf) k tt
fits (suc zero) r e = let k : Ospf 11 ≡ r = cc in subst (IsRouteOf OverOspf) k tt
fits (suc (suc u)) r e = absurd (cc)

stable : IsStable S L
stable = record {
  fitting = record { total = refl; routes = fits };
  none = λ u c h e. absurd (each_router (λ v. label L v ≡ None → ⊥) (λ z. cc) (λ z. cc) u h e);
  held = λ u r h e. each_router (λ v. label L v ≡ Some r → IsCandidate S L v r) (λ z. of_init z)
      (λ z. (let k : Ospf 11 ≡ r = cc in subst (IsCandidate S L 1) k
      (of_edge forth (1, omega arith, refl) refl (over_candidate S L forth (Ospf 11) over_forth)))) u h e;
  best = λ u r c h e k. best u r c e k;
}
