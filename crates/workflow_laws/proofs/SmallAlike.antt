-- Problems with the same edges that act alike have problems of the groups that are alike.
use Rattle.std.proofs.Common.{◌≡◌, ℕ, Bool, List, [], ◌∷◌, inl, inr, Option, refl, sym, subst}
use Rattle.std.specs.Prelude.{slice_index_or}
use Rattle.base_kit.proofs.Elements.{In, contains_in, in_contains}
use Rattle.base_kit.specs.Partition.{IsNumbered}
use Rattle.base_kit.specs.declared.act_graph.Edge.{Edge}
use Rattle.base_kit.specs.declared.protocol.Protocol.{Protocol}
use Rattle.srp_core.specs.Acts.{ActsAlike}
use Rattle.srp_core.specs.Alike.{AllEdgesAlike, ProblemsAlike}
use Rattle.srp_core.specs.Problem.{Problem, IsProblem, act_of}
use Rattle.srp_core.specs.Quotient.{IsAdmissible}
use Rattle.srp_core.specs.declared.route.Act.{Act}
use Rattle.srp_core.specs.declared.route.Act.TheVariants.{Cost}
use Rattle.srp_core.specs.declared.route.Route.{Route}
use Rattle.srp_quotient.specs.Groups.{quotient_problem, small_of}
use Rattle.srp_quotient.specs.Laws.{QuotientIsQuotient}

abbrev made : Protocol → List (List ℕ) → List ℕ → List (Option Route) → List Bool → List Act → List Edge → Problem
made protocol names numbers init lone acts edges =
    record { protocol = protocol; names = names; numbers = numbers; init = init; lone = lone; acts = acts; edges = edges }

-- the problem with other acts
abbrev with_acts : Problem → List Act → Problem
with_acts P acts = made P.protocol P.names P.numbers P.init P.lone acts P.edges

-- problems that are alike and have the same edges differ in their acts alone
is_with_acts : (P Q : Problem) → ProblemsAlike P Q → P.edges ≡ Q.edges → with_acts P Q.acts ≡ Q
is_with_acts P Q same edges = λ j. made (same.protocol j) (same.names j) (same.numbers j) (same.init j) (same.lone j) Q.acts (edges j)

acts_alike : (P Q : Problem) (es : List Edge) → AllEdgesAlike P Q es es → (e : Edge) → In es e → ActsAlike (act_of P e) (act_of Q e)
acts_alike P Q [] same e at = absurd at
acts_alike P Q (x ∷ es) same e (inl is) = subst (λ (y : Edge). ActsAlike (act_of P y) (act_of Q y)) is same.0.acts
acts_alike P Q (x ∷ es) same e (inr at) = acts_alike P Q es same.1 e at

edges_alike : (P Q : Problem) (es : List Edge) → ((e : Edge) → In es e → ActsAlike (act_of P e) (act_of Q e)) → AllEdgesAlike P Q es es
edges_alike P Q [] each = tt
edges_alike P Q (e ∷ es) each =
    (record { importer = refl; exporter = refl; link = refl; acts = each e (inl refl) }, edges_alike P Q es (λ f at. each f (inr at)))

module _ (is_quotient : QuotientIsQuotient) (P : Problem) (rules : IsProblem P) (groups : List ℕ) (count : ℕ) (admissible : IsAdmissible P groups)
    (numbered : IsNumbered groups count) where
  abbrev S : Problem
  S = small_of P groups count

  -- an edge of the groups has the act of an edge of the routers
  from_above : IsProblem S → (lower : Edge) → In S.edges lower → (edge : Edge) × In P.edges edge × (edge.act ≡ lower.act)
  unfolding quotient_problem
  from_above small lower at =
      let has = contains_in S.edges lower at in
      let down = (is_quotient P groups count rules admissible numbered).down lower has in
      let inside = (rules.edges.inside down.0 down.1).act_in in
      let below = (small.edges.inside lower has).act_in in
      (down.0, in_contains P.edges down.0 down.1, rules.acts.differ down.0.act lower.act inside below down.2.alike)

  of_acts : IsProblem S → (acts : List Act) → ProblemsAlike P (with_acts P acts) → ProblemsAlike S (small_of (with_acts P acts) groups count)
  unfolding quotient_problem
  of_acts small acts same =
      let each = acts_alike P (with_acts P acts) P.edges same.edges in
      record {
        protocol = refl;
        names = refl;
        numbers = refl;
        init = refl;
        lone = refl;
        edges =
            edges_alike S (small_of (with_acts P acts) groups count) S.edges (λ lower at.
            let a = from_above small lower at in
            subst (λ k. ActsAlike (slice_index_or P.acts k (Cost 0)) (slice_index_or acts k (Cost 0))) a.2 (each a.0 a.1));
      }

  pub small_alike : IsProblem S → (Q : Problem) → ProblemsAlike P Q → P.edges ≡ Q.edges → ProblemsAlike S (small_of Q groups count)
  small_alike small Q same edges =
      let one = is_with_acts P Q same edges in
      subst (λ (R : Problem). ProblemsAlike S (small_of R groups count)) one
      (of_acts small Q.acts (subst (λ (R : Problem). ProblemsAlike P R) (sym one) same))
