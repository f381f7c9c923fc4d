-- The edges of a router over which nothing better can come.
use Rattle.std.proofs.Common.{◌≡◌, ℕ, ◌+◌, ◌<◌, ◌≤◌, List, length, get_or, Option, None, sym, ap, ◌∙◌, subst, inl, inr, arith}
use Rattle.std.specs.Prelude.{slice_index_or}
use Rattle.std.proofs.lemmas.Bool.{cases_lt}
use Rattle.std.proofs.lemmas.List.{get_or_default}
use Rattle.base_kit.specs.declared.act_graph.Edge.{Edge}
use Rattle.srp_core.specs.declared.route.Route.{Route}
use Rattle.srp_core.specs.declared.route.Act.TheVariants.{Cost}
use Rattle.srp_core.specs.Problem.{Problem, number, IsEdgeOf, IsProblem}
use Rattle.srp_core.specs.Candidates.{AreOwnEdges}
use Rattle.srp_core.specs.Stability.{label}
use Rattle.srp_core.proofs.Offers.{edge_at}
use Rattle.solution_search.specs.Cases.{Case, IsSure}
use Rattle.solution_search.specs.Lookups.{IsHighest}

-- an edge of the list is one of the problem
pub edge_inside : (P : Problem) → IsProblem P → (edges : List Edge) → edges ≡ P.edges → (place : ℕ) (d : Edge) → place < length edges →
    IsEdgeOf P (get_or edges place d)
edge_inside P good edges same place d h =
    let less : place < length P.edges = subst (λ (l : List Edge). place < length l) same h in
    let is : get_or edges place d ≡ get_or P.edges place d = ap (λ (l : List Edge). get_or l place d) same in
    subst (IsEdgeOf P) (sym is) (edge_at P good place (get_or P.edges place d) less (get_or_default P.edges place (get_or P.edges place d) d less))

-- one edge more gives nothing better
pub sure_more : (labels : List (Option Route)) (highest : List ℕ) (edges : List Edge) (first place preference : ℕ) (here : Option Route) (e : Edge) →
    ((k : ℕ) (d : Edge) → first ≤ k → k < place → label labels (get_or edges k d).exporter ≡ None →
    slice_index_or highest (get_or edges k d).act 0 ≤ preference) →
    place < length edges → here ≡ get_or labels (get_or edges place e).exporter here → (get_or edges place e).exporter < length labels →
    (here ≡ None → slice_index_or highest (get_or edges place e).act 0 ≤ preference) → (k : ℕ) (d : Edge) → first ≤ k → k < place + 1 →
    label labels (get_or edges k d).exporter ≡ None → slice_index_or highest (get_or edges k d).act 0 ≤ preference
sure_more labels highest edges first place preference here e before inside is within now k d le less empty = elim (cases_lt k place) [
  | inl old ↦ before k d le old empty
  | inr new ↦
      let same : k ≡ place = omega arith in
      let edge : get_or edges k d ≡ get_or edges place e = ap (λ (n : ℕ). get_or edges n d) same ∙ get_or_default edges place d e inside in
      let there : label labels (get_or edges place e).exporter ≡ None = subst (λ (x : Edge). label labels x.exporter ≡ None) edge empty in
      let none : here ≡ None = is ∙ get_or_default labels (get_or edges place e).exporter here None within ∙ there in
      subst (λ (x : Edge). slice_index_or highest x.act 0 ≤ preference) (sym edge) (now none)
]

-- none of the router's edges gives anything better
pub sure_at_end : (P : Problem) → IsProblem P → (case : Case) (highest : List ℕ) →
    ((i : ℕ) → i < length P.acts → IsHighest (slice_index_or P.acts i (Cost 0)) (slice_index_or highest i 0)) → (edges : List Edge) → edges ≡ P.edges →
    (router preference first end place : ℕ) → AreOwnEdges edges router first end →
    ((k : ℕ) (d : Edge) → first ≤ k → k < place → label case.labels (get_or edges k d).exporter ≡ None →
    slice_index_or highest (get_or edges k d).act 0 ≤ preference) →
    end ≤ place → IsSure P case router preference
sure_at_end P good case highest most edges same router preference first end place own all far = record {
  not_above = λ e from route i imp empty fit s.
      (let less : i.0 < length edges = subst (λ (l : List Edge). i.0 < length l) (sym same) i.1 in
      let is : get_or edges i.0 e ≡ e = ap (λ (l : List Edge). get_or l i.0 e) same ∙ i.2 in
      let imp' : (get_or edges i.0 e).importer ≡ router = ap (λ (x : Edge). x.importer) is ∙ imp in
      let after : first ≤ i.0 = elim (cases_lt i.0 first) [
        | inr le ↦ le
        | inl before ↦ let b = own.before i.0 e (omega arith) before in absurd (omega (arith, b, imp'))
      ] in
      let inside : i.0 < end = elim (cases_lt i.0 end) [
        | inl lt ↦ lt
        | inr behind ↦ let b = own.behind i.0 e behind less in absurd (omega (arith, b, imp'))
      ] in
      let none : label case.labels (get_or edges i.0 e).exporter ≡ None = ap (λ (x : Edge). label case.labels x.exporter) is ∙ empty in
      let bound = all i.0 e after (omega arith) none in
      let bound' : slice_index_or highest e.act 0 ≤ preference = subst (λ (x : Edge). slice_index_or highest x.act 0 ≤ preference) is bound in
      let top = (most e.act (good.edges.inside e i).act_in).most (number P e.exporter) from route s in
      omega (arith, bound', top));
}
