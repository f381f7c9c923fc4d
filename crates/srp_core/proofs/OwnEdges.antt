-- The edges of a router stand together, and give all its candidates but the initial route.
use Rattle.std.proofs.Common.{◌≡◌, ◌≢◌, ℕ, zero, suc, ◌+◌, ◌<◌, ◌≤◌, true, false, cond, All, List, [], ◌∷◌, ◌++◌, length, drop, Option, Some, None, refl, sym, ap, ◌∙◌, inl, inr, arith, append-nil}
use Rattle.std.specs.Prelude.{nat_lt, nat_le, slice_index_or}
use Rattle.std.specs.List.{AllWithin}
use Rattle.std.specs.List.Sorted.{IsPartitionedBy, IsPartitionPoint}
use Rattle.std.proofs.lemmas.Bool.{ltb-true, ltb-false, lt-ltb, leb-true, leb-false, le-leb, ne_eqb, cases_lt}
use Rattle.base_kit.specs.declared.act_graph.Edge.{Edge}
use Rattle.srp_core.specs.declared.route.Route.{Route}
use Rattle.srp_core.specs.declared.route.Candidate.{Candidate}
use Rattle.srp_core.specs.Routes.{IsRouteOf}
use Rattle.srp_core.specs.Problem.{Problem, initial, Precedes, AreOrdered, IsProblem}
use Rattle.srp_core.specs.Stability.{AreLabels}
use Rattle.srp_core.specs.Candidates.{candidates, over, over_edges, candidate_of, AreOwnEdges}
use Rattle.srp_core.proofs.Offers.{candidate_offer, offer_route}
use Rattle.srp_core.proofs.CandidateLists.{candidates_are, candidates_sound}
use Rattle.std.proofs.lemmas.List.Elements.{All-contains_itself}

before_importer : (a b : Edge) → Precedes a b → a.importer ≤ b.importer
before_importer a b (inl less) = omega arith
before_importer a b (inr same) = let e = same.0 in omega arith

importers_rise : (edges : List Edge) → AreOrdered edges → (i j : ℕ) (d : Edge) → i ≤ j → j < length edges →
    (slice_index_or edges i d).importer ≤ (slice_index_or edges j d).importer
importers_rise [] up i j d le h = absurd (omega arith)
importers_rise (e ∷ edges) up zero zero d le h = omega arith
importers_rise (e ∷ edges) up zero (suc j) d le h = before_importer e (slice_index_or edges j d) (up.0 j d (omega arith))
importers_rise (e ∷ edges) up (suc i) zero d le h = absurd (omega arith)
importers_rise (e ∷ edges) up (suc i) (suc j) d le h = importers_rise edges up.1 i j d (omega arith) (omega arith)

pub below_first : (edges : List Edge) (u : ℕ) → AreOrdered edges → IsPartitionedBy (λ (e : Edge). nat_lt e.importer u) edges
below_first edges u up i j d le h t =
    let rise = importers_rise edges up i j d le h in
    let less = ltb-true (slice_index_or edges j d).importer u t in
    lt-ltb (slice_index_or edges i d).importer u (omega arith)

pub below_end : (edges : List Edge) (u : ℕ) → AreOrdered edges → IsPartitionedBy (λ (e : Edge). nat_le e.importer u) edges
below_end edges u up i j d le h t =
    let rise = importers_rise edges up i j d le h in
    let less = leb-true (slice_index_or edges j d).importer u t in
    le-leb (slice_index_or edges i d).importer u (omega arith)

pub own_from_points : (edges : List Edge) (u first end : ℕ) → first ≤ length edges → end ≤ length edges →
    IsPartitionPoint (λ (e : Edge). nat_lt e.importer u ≡ true) (λ (e : Edge). nat_lt e.importer u ≡ false) edges first →
    IsPartitionPoint (λ (e : Edge). nat_le e.importer u ≡ true) (λ (e : Edge). nat_le e.importer u ≡ false) edges end → AreOwnEdges edges u first end
own_from_points edges u first end hf he pf pe = record {
  forward = elim (cases_lt end first) [
    | inr le ↦ le
    | inl less ↦
        let d : Edge = record { importer = 0; exporter = 0; act = 0; link = 0 } in
        let a = ltb-true (slice_index_or edges end d).importer u (pf.0 end d (omega arith) less) in
        let b = leb-false (slice_index_or edges end d).importer u (pe.1 end d (omega arith) (omega arith)) in
        absurd (omega arith)
  ];
  inside = he;
  before = λ k d le h. ltb-true (slice_index_or edges k d).importer u (pf.0 k d le h);
  own = λ k d le h.
      (let a = ltb-false (slice_index_or edges k d).importer u (pf.1 k d le (omega arith)) in
      let b = leb-true (slice_index_or edges k d).importer u (pe.0 k d (omega arith) h) in
      omega arith);
  behind = λ k d le h. (let b = leb-false (slice_index_or edges k d).importer u (pe.1 k d le h) in omega arith);
}

-- edges of other routers give nothing
other_edge : (P : Problem) (L : List (Option Route)) (u place : ℕ) (e : Edge) (edges : List Edge) → e.importer ≢ u →
    over_edges P L u place (e ∷ edges) ≡ over_edges P L u (place + 1) edges
unfolding over_edges
other_edge P L u place e edges differ = ap (λ t. cond t (candidate_of (Some place) (over P L e)) [] ++ over_edges P L u (place + 1) edges)
    (ne_eqb e.importer u differ)

pub skipped : (P : Problem) (L : List (Option Route)) (u place n : ℕ) (edges : List Edge) → n ≤ length edges →
    AllWithin (λ (e : Edge). e.importer < u) edges 0 n → over_edges P L u place edges ≡ over_edges P L u (place + n) (drop n edges)
skipped P L u place zero edges h before = let e : place ≡ place + 0 = omega arith in ap (λ (k : ℕ). over_edges P L u k edges) e
skipped P L u place (suc n) [] h before = absurd (omega arith)
skipped P L u place (suc n) (e ∷ edges) h before =
    let less = before 0 e (omega arith) (omega arith) in
    let rest = skipped P L u (place + 1) n edges (omega arith) (λ k d le less'. before (suc k) d (omega arith) (omega arith)) in
    let sum : place + 1 + n ≡ place + suc n = omega arith in
    other_edge P L u place e edges (λ same. omega arith) ∙ rest ∙ ap (λ (k : ℕ). over_edges P L u k (drop n edges)) sum

nothing_left : (P : Problem) (L : List (Option Route)) (u place : ℕ) → over_edges P L u place [] ≡ []
unfolding over_edges
nothing_left P L u place = refl

pub none_behind : (P : Problem) (L : List (Option Route)) (u place n : ℕ) (edges : List Edge) →
    AllWithin (λ (e : Edge). u < e.importer) edges n (length edges) → over_edges P L u place (drop n edges) ≡ []
none_behind P L u place zero [] behind = nothing_left P L u place
none_behind P L u place zero (e ∷ edges) behind =
    let more = behind 0 e (omega arith) (omega arith) in
    other_edge P L u place e edges (λ same. omega arith) ∙ none_behind P L u (place + 1) zero edges (λ k d le h. behind (suc k) d (omega arith) (omega arith))
none_behind P L u place (suc n) [] behind = nothing_left P L u place
none_behind P L u place (suc n) (e ∷ edges) behind = none_behind P L u place n edges (λ k d le h. behind (suc k) d (omega arith) (omega arith))

-- the initial route, and then the own edges
pub begun : (P : Problem) (L : List (Option Route)) (u first end : ℕ) (found : List Candidate) → AreOwnEdges P.edges u first end →
    found ≡ candidate_of None (initial P u) → found ++ over_edges P L u first (drop first P.edges) ≡ candidates P L u
begun P L u first end found own e =
    let f = own.forward in
    let i = own.inside in
    let skip = skipped P L u 0 first P.edges (omega arith) own.before in
    let sum : 0 + first ≡ first = omega arith in
    ap (λ (l : List Candidate). l ++ over_edges P L u first (drop first P.edges)) e
    ∙ sym (ap (λ (l : List Candidate). candidate_of None (initial P u) ++ l) (skip ∙ ap (λ (k : ℕ). over_edges P L u k (drop first P.edges)) sum))
    ∙ sym (candidates_are P L u)

pub ended : (P : Problem) (L : List (Option Route)) (u first end place : ℕ) (found : List Candidate) → AreOwnEdges P.edges u first end → place ≡ end →
    found ++ over_edges P L u place (drop place P.edges) ≡ candidates P L u → found ≡ candidates P L u
ended P L u first end place found own at e =
    let done : over_edges P L u place (drop place P.edges) ≡ [] = ap (λ (k : ℕ). over_edges P L u place (drop k P.edges)) at
    ∙ none_behind P L u place end P.edges own.behind in
    sym (ap (λ (l : List Candidate). found ++ l) done ∙ append-nil found) ∙ e

-- all candidates are routes of the protocol
pub candidate_routes : (P : Problem) → IsProblem P → (L : List (Option Route)) (u : ℕ) → AreLabels P L →
    All (λ (k : Candidate). IsRouteOf P.protocol k.route) (candidates P L u)
candidate_routes P good L u fits n d h =
    let k = slice_index_or (candidates P L u) n d in
    offer_route P good u k.route (candidate_offer P good L u k.route fits (candidates_sound P L u k (All-contains_itself (candidates P L u) n d h)))
