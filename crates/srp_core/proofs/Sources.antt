-- The step of the loops of `fold` and `lift`: the edge that they look for is there.
use Rattle.std.proofs.Common.{◌≡◌, ℕ, ◌<◌, List, ◌∷◌, Option, Some, None, refl, sym, ap, ◌∙◌, subst}
use Rattle.std.specs.Prelude.{Contains}
use Rattle.base_kit.specs.declared.protocol.Protocol.TheVariants.{Bgp as OverBgp}
use Rattle.srp_core.specs.declared.route.Route.{Route}
use Rattle.base_kit.specs.declared.act_graph.Edge.{Edge}
use Rattle.srp_core.specs.Routes.{path_of, size_of}
use Rattle.srp_core.specs.Problem.{Problem, count, number, initial, key_of, IsProblem}
use Rattle.srp_core.specs.Stability.{label, IsCandidateOver, IsCandidate, of_init, of_edge, IsStable}
use Rattle.srp_core.specs.Quotient.{group_of, IsAdmissible, IsQuotient}
use Rattle.srp_core.specs.Lifts.{IsFirstOn, GroupTakes}
use Rattle.srp_core.proofs.Matching.{converse}
use Rattle.srp_core.proofs.Filling.{IsEven, IsGood, IsFilled, offered_over}
use Rattle.srp_core.proofs.GroupMatching.{IsIn, equal_held, quotient_matching}
use Rattle.srp_core.proofs.LiftedLabels.{first_on}

pub heads : (a b : ℕ) (p q r : List ℕ) → r ≡ a ∷ p → r ≡ b ∷ q → a ≡ b
heads a b p q r e f = let g : a ∷ p ≡ b ∷ q = sym e ∙ f in cc

-- the router first on a path is the exporter over which the route came
pub first_is : (P : Problem) → IsProblem P → P.protocol ≡ OverBgp → (L : List (Option Route)) (r : Route) (e : Edge) (w : ℕ) → Contains P.edges e →
    IsCandidateOver P L e r → IsFirstOn P (path_of r) w → w ≡ e.exporter
first_is P good bgp L r e w i over on =
    let f = first_on P good bgp L r e i over in
    let numbers : number P w ≡ number P e.exporter = on.numbered ∙ heads on.number_of f.number_of on.rest f.rest (path_of r) on.path_is f.path_is
    ∙ sym f.numbered in
    (good.numbers bgp).distinct w e.exporter on.inside f.inside numbers (λ z. on.some_number (sym on.numbered ∙ z))

module _ (S : Problem) (good : IsProblem S) (groups : List ℕ) (adm : IsAdmissible S groups) (Q : Problem) (goodq : IsProblem Q) (q : IsQuotient S groups Q)
    (bgp : S.protocol ≡ OverBgp) where
  module _ (L : List (Option Route)) (st : IsStable S L) (E : List (Option Route)) (state : IsGood Q S (λ g u. IsIn S groups u g) E L) where
    fold_from : (u w : ℕ) (r : Route) → u < count S → label L u ≡ Some r → initial S u ≡ None → label E (group_of groups u) ≡ None →
        IsFilled (λ g u. IsIn S groups u g) E L (size_of r) → IsFirstOn S (path_of r) w → IsCandidate S L u r →
        (m : Route) × GroupTakes S Q E (group_of groups u) (group_of groups w) m r
    fold_from u w r h e none empty before on (of_init i) = absurd (cc)
    fold_from u w r h e none empty before on (of_edge edge i imp over) =
        let even : IsEven S (λ g u. IsIn S groups u g) L =
        record {
          held = λ g u u' r x x' e. equal_held S good groups adm L st u u' r
              (record { left = x.inside; right = x'.inside; same = x.of_group ∙ sym x'.of_group }) e;
        } in
        let m = converse S Q (IsIn S groups) (quotient_matching S good groups adm Q goodq q) in
        let o = offered_over Q S (λ g u. IsIn S groups u g) m goodq good L st even E state (group_of groups u) u r (record { inside = h; of_group = refl }) e
        empty before edge i imp over in
        let same = first_is S good bgp L r edge w i over on in (
          o.route,
          record {
            edge = o.edge;
            edge_in = o.edge_in;
            importer = o.importer;
            exporter = sym o.exporter.of_group ∙ ap (group_of groups) (sym same);
            over = o.over;
            keyed = o.keyed;
          },
        )

    pub fold_next : (u w : ℕ) (r : Route) → u < count S → label L u ≡ Some r → initial S u ≡ None → label E (group_of groups u) ≡ None →
        IsFilled (λ g u. IsIn S groups u g) E L (size_of r) → IsFirstOn S (path_of r) w →
        (m : Route) × GroupTakes S Q E (group_of groups u) (group_of groups w) m r
    fold_next u w r h e none empty before on = fold_from u w r h e none empty before on (st.held u r h e)

  module _ (M : List (Option Route)) (st : IsStable Q M) (E : List (Option Route)) (state : IsGood S Q (IsIn S groups) E M) where
    lift_from : (u source : ℕ) (m : Route) → u < count S → label M (group_of groups u) ≡ Some m → initial S u ≡ None → label E u ≡ None →
        IsFilled (IsIn S groups) E M (size_of m) → IsFirstOn Q (path_of m) source → IsCandidate Q M (group_of groups u) m →
        (edge : Edge) × Contains S.edges edge × (edge.importer ≡ u) × (group_of groups edge.exporter ≡ source)
        × ((r : Route) × IsCandidateOver S E edge r × (key_of S r ≡ key_of Q m))
    lift_from u source m h e none empty before on (of_init i) = let there : initial S u ≡ Some m = sym (q.origins u h) ∙ i in absurd (cc)
    lift_from u source m h e none empty before on (of_edge edge i imp over) =
        let even : IsEven Q (IsIn S groups) M = record {
          held = λ u g g' r x x' e. (let same : g ≡ g' = sym x.of_group ∙ x'.of_group in
              record { route = r; labelled = subst (λ h. label M h ≡ Some r) same e; keyed = refl });
        } in
        let o = offered_over S Q (IsIn S groups) (quotient_matching S good groups adm Q goodq q) good goodq M st even E state u (group_of groups u) m
        (record { inside = h; of_group = refl }) e empty before edge i imp over in
        let same = first_is Q goodq (sym q.protocol ∙ bgp) M m edge source i over on in
        (o.edge, o.edge_in, o.importer, o.exporter.of_group ∙ sym same, (o.route, o.over, o.keyed))

    pub lift_next : (u source : ℕ) (m : Route) → u < count S → label M (group_of groups u) ≡ Some m → initial S u ≡ None → label E u ≡ None →
        IsFilled (IsIn S groups) E M (size_of m) → IsFirstOn Q (path_of m) source → (edge : Edge) × Contains S.edges edge × (edge.importer ≡ u)
        × (group_of groups edge.exporter ≡ source) × ((r : Route) × IsCandidateOver S E edge r × (key_of S r ≡ key_of Q m))
    lift_next u source m h e none empty before on = lift_from u source m h e none empty before on (st.held (group_of groups u) m (q.inside u h) e)
