-- The edges of a router stand together.
use Rattle.std.proofs.Common.{◌≡◌, ◌≢◌, ℕ, zero, suc, ◌+◌, ◌-◌, ◌<◌, ◌≤◌, All, List, [], ◌∷◌, length, take, drop, get_or, refl, sym, ap, ◌∙◌, subst, arith, inl, inr}
use Rattle.std.specs.Prelude.{Contains, slice_index_or}
use Rattle.std.specs.List.{AllWithin}
use Rattle.std.proofs.Math.ListN.{length-drop, length-take}
use Rattle.std.proofs.Math.Seq.{get_or-drop, get_or-take}
use Rattle.std.proofs.lemmas.Bool.{cases_lt}
use Rattle.base_kit.specs.declared.act_graph.Edge.{Edge}
use Rattle.srp_core.specs.Problem.{Problem, Precedes, AreOrdered, IsEdgeOf, IsProblem}
use Rattle.route_offers.specs.Offers.{AreOwn}

before_importer : (a b : Edge) → Precedes a b → a.importer ≤ b.importer
before_importer a b (inl less) = omega arith
before_importer a b (inr same) = let e = same.0 in omega arith

importers_rise : (edges : List Edge) → AreOrdered edges → (i j : ℕ) (d : Edge) → i ≤ j → j < length edges →
    (slice_index_or edges i d).importer ≤ (slice_index_or edges j d).importer
importers_rise [] up i j d le h = absurd (omega arith)
importers_rise (e ∷ edges) up zero zero d le h = omega arith
importers_rise (e ∷ edges) up zero (suc j) d le h = before_importer e (slice_index_or edges j d) (up.0 j d (omega arith))
importers_rise (e ∷ edges) up (suc i) zero d le h = absurd (omega arith)
importers_rise (e ∷ edges) up (suc i) (suc j) d le h = importers_rise edges up.1 i j d (omega arith) (omega arith)

-- where the edges of the routers before end, and those of this one
pub record Stand (edges : List Edge) (router first end : ℕ) : Type 0 where
  pub forward : first ≤ end
  pub inside : end ≤ length edges
  pub passed : AllWithin (λ edge. edge.importer < router) edges 0 first
  pub left : AllWithin (λ edge. router ≤ edge.importer) edges first (length edges)
  pub own : AllWithin (λ edge. edge.importer ≡ router) edges first end
  pub other : end < length edges → (d : Edge) → (slice_index_or edges end d).importer ≢ router

pub passed_more : (edges : List Edge) (router first end : ℕ) → Stand edges router first end → AllWithin (λ edge. edge.importer < router + 1) edges 0 end
passed_more edges router first end s k d le lt = elim (cases_lt k first) [
  | inl before ↦ (let h = s.passed k d le before in omega arith)
  | inr here ↦ (let h = s.own k d here lt in omega arith)
]

pub left_more : (edges : List Edge) (router first end : ℕ) → AreOrdered edges → Stand edges router first end →
    AllWithin (λ edge. router + 1 ≤ edge.importer) edges end (length edges)
left_more edges router first end up s k d le lt =
    let here : end < length edges = omega arith in
    let at = s.left end d s.forward here in
    let apart = s.other here d in
    let rise = importers_rise edges up end k d le lt in
    above (slice_index_or edges end d).importer (slice_index_or edges k d).importer router at apart rise
  where
    above : (a b r : ℕ) → r ≤ a → a ≢ r → a ≤ b → r + 1 ≤ b
    above a b r at apart rise = elim (cases_lt r a) [ inl less ↦ omega arith | inr eq ↦ absurd (apart (omega arith)) ]

-- the edges from the first to the end
abbrev pub own_of : List Edge → ℕ → ℕ → List Edge
own_of edges first end = take (end - first) (drop first edges)

pub own_at : (edges : List Edge) (first end k : ℕ) (d : Edge) → end ≤ length edges → first + k < end →
    get_or (own_of edges first end) k d ≡ get_or edges (first + k) d
own_at edges first end k d le lt = get_or-take (end - first) (drop first edges) k d (omega arith) ∙ get_or-drop first edges k d

pub own_length : (edges : List Edge) (first end : ℕ) → first ≤ end → end ≤ length edges → length (own_of edges first end) ≡ end - first
own_length edges first end fw le = omega (arith, length-take (end - first) (drop first edges), length-drop first edges)

pub own_are : (P : Problem) (edges : List Edge) (router first end : ℕ) → edges ≡ P.edges → AreOrdered edges → Stand edges router first end →
    AreOwn P router (own_of edges first end)
own_are P edges router first end same up s = record {
  only = λ edge h.
      (let total = own_length edges first end s.forward s.inside in
      let k = h.0 in
      let inside = h.1 in
      let lt : first + k < end = omega (arith, total, inside) in
      let at : get_or edges (first + k) edge ≡ edge = sym (own_at edges first end k edge s.inside lt) ∙ h.2 in (
        subst (λ (l : List Edge). Contains l edge) same (first + k, omega (arith, s.inside), at),
        ap (λ (e : Edge). e.importer) (sym at)
            ∙ s.own (first + k) edge (omega arith) lt,
      ));
  all = λ edge i imp.
      (let j = subst (λ (l : List Edge). Contains l edge) (sym same) i in
      let k = j.0 in
      let inside = j.1 in
      let here : (slice_index_or edges k edge).importer ≡ router = ap (λ (e : Edge). e.importer) j.2 ∙ imp in
      let low : first ≤ k = not_before k edge here in
      let high : k < end = not_behind k edge inside here in
      let total = own_length edges first end s.forward s.inside in
      let place : first + (k - first) ≡ k = omega arith in
      (k - first, omega (arith, total), own_at edges first end (k - first) edge s.inside (omega arith) ∙ ap (λ (n : ℕ). get_or edges n edge) place ∙ j.2));
}
  where
    not_before : (k : ℕ) (d : Edge) → (slice_index_or edges k d).importer ≡ router → first ≤ k
    not_before k d e = elim (cases_lt k first) [ inl before ↦ absurd (let h = s.passed k d (omega arith) before in omega arith) | inr le ↦ le ]

    not_behind : (k : ℕ) (d : Edge) → k < length edges → (slice_index_or edges k d).importer ≡ router → k < end
    not_behind k d lt e = elim (cases_lt k end) [ inl h ↦ h | inr le ↦ absurd (let h = left_more edges router first end up s k d le lt in omega arith) ]

pub own_fit : (P : Problem) (router : ℕ) (own : List Edge) → IsProblem P → AreOwn P router own → All (IsEdgeOf P) own
own_fit P router own rules are k d lt =
    let edge = slice_index_or own k d in
    rules.edges.inside edge (are.only edge (k, lt, again own k d lt)).0
  where
    again : (xs : List Edge) (k : ℕ) (d : Edge) → k < length xs → slice_index_or xs k (slice_index_or xs k d) ≡ slice_index_or xs k d
    again [] k d lt = absurd (omega arith)
    again (x ∷ xs) zero d lt = refl
    again (x ∷ xs) (suc k) d lt = again xs k d (omega arith)
