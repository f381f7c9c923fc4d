-- What holds of the edges of a router, place by place.
use Rattle.std.proofs.Common.{◌≡◌, ℕ, ◌+◌, ◌<◌, ◌≤◌, List, length, get_or, sym, ap, ◌∙◌, subst, inl, inr, arith}
use Rattle.std.specs.Prelude.{Contains}
use Rattle.std.proofs.lemmas.Bool.{cases_lt}
use Rattle.std.proofs.lemmas.List.{get_or_default}
use Rattle.base_kit.specs.declared.act_graph.Edge.{Edge}
use Rattle.srp_core.specs.Candidates.{AreOwnEdges}

module _ (edges : List Edge) (Q : Edge → Type 0) where
  -- one edge more
  pub owned_more : (first place : ℕ) (e : Edge) → ((k : ℕ) (d : Edge) → first ≤ k → k < place → Q (get_or edges k d)) → place < length edges →
      Q (get_or edges place e) → (k : ℕ) (d : Edge) → first ≤ k → k < place + 1 → Q (get_or edges k d)
  owned_more first place e before inside now k d le less = elim (cases_lt k place) [
    | inl old ↦ before k d le old
    | inr new ↦
        let same : k ≡ place = omega arith in
        let edge : get_or edges place e ≡ get_or edges k d = get_or_default edges place e d inside ∙ ap (λ (n : ℕ). get_or edges n d) (sym same) in
        subst Q edge now
  ]

  -- all edges of the router
  pub owned_all : (router first end place : ℕ) → AreOwnEdges edges router first end → ((k : ℕ) (d : Edge) → first ≤ k → k < place → Q (get_or edges k d)) →
      end ≤ place → (e : Edge) → Contains edges e → e.importer ≡ router → Q e
  owned_all router first end place own all far e i imp =
      let imp' : (get_or edges i.0 e).importer ≡ router = ap (λ (x : Edge). x.importer) i.2 ∙ imp in
      let less = i.1 in
      let after : first ≤ i.0 = elim (cases_lt i.0 first) [
        | inr le ↦ le
        | inl before ↦ let b = own.before i.0 e (omega arith) before in absurd (omega (arith, b, imp'))
      ] in
      let inside : i.0 < end = elim (cases_lt i.0 end) [
        | inl lt ↦ lt
        | inr behind ↦ let b = own.behind i.0 e behind less in absurd (omega (arith, b, imp'))
      ] in
      subst Q i.2 (all i.0 e after (omega (arith, inside, far)))
