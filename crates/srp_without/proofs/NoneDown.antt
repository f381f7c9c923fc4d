-- Where nothing is down the problem is what is left.
use Rattle.std.proofs.Common.{◌≡◌, ℕ, Bool, true, false, cond, not, ◌&&◌, List, [], ◌∷◌, None, refl, sym, ap, ◌∙◌}
use Rattle.std.specs.Prelude.{filter, slice_index_or}
use Rattle.base_kit.specs.declared.act_graph.Edge.{Edge}
use Rattle.srp_core.specs.Problem.{Problem, initial, IsProblem}
use Rattle.srp_core.specs.Without.{marked_down, is_left, IsWithout}

module _ (problem : Problem) (rules : IsProblem problem) (routers links : List Bool) (no_router : (u : ℕ) → slice_index_or routers u false ≡ false)
    (no_link : (link : ℕ) → slice_index_or links link false ≡ false) where
  edge_left : (edge : Edge) → is_left (marked_down routers links) edge ≡ true
  edge_left edge =
      ap (λ b. not b && (not (slice_index_or routers edge.importer false) && not (slice_index_or routers edge.exporter false))) (no_link edge.link)
      ∙ ap (λ b. not b && not (slice_index_or routers edge.exporter false)) (no_router edge.importer) ∙ ap not (no_router edge.exporter)

  all_left : (edges : List Edge) → edges ≡ filter (is_left (marked_down routers links)) edges
  all_left [] = refl
  all_left (edge ∷ edges) = ap (λ rest. edge ∷ rest) (all_left edges)
      ∙ ap (λ b. cond b (edge ∷ filter (is_left (marked_down routers links)) edges) (filter (is_left (marked_down routers links)) edges)) (sym (edge_left edge))

  pub none_down : IsWithout problem (marked_down routers links) problem
  none_down = record {
    rules = rules;
    protocol = refl;
    names = refl;
    numbers = refl;
    acts = refl;
    init = λ u. ap (λ b. cond b None (initial problem u)) (sym (no_router u));
    edges = all_left problem.edges;
  }
