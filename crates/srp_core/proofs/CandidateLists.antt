-- The list of candidates has the candidates.
use Rattle.std.proofs.Common.{drop, drop-cons, add-one, append_assoc, ◌≡◌, ◌⊎◌, ℕ, zero, suc, ◌+◌, ◌<◌, Bool, true, false, cond, List, [], ◌∷◌, ◌++◌, length, Option, Some, None, refl, sym, ap, ◌∙◌, subst, inl, inr, arith}
use Rattle.std.specs.Prelude.{Contains, nat_eq, option_and_then, slice_index_or}
use Rattle.std.proofs.lemmas.Bool.{cases_Bool, eqb-true, eq-eqb, ne_eqb}
use Rattle.std.proofs.lemmas.List.Elements.{Contains-append_left, Contains-append_right, Contains-append_cases}
use Rattle.srp_core.specs.declared.route.Route.{Route}
use Rattle.base_kit.specs.declared.act_graph.Edge.{Edge}
use Rattle.srp_core.specs.declared.route.Candidate.{Candidate}
use Rattle.srp_core.specs.Routes.{path_of, is_on}
use Rattle.srp_core.specs.Problem.{Problem, number, initial, step_over}
use Rattle.srp_core.specs.Stability.{label, IsCandidateOver, IsCandidate, of_init, of_edge}
use Rattle.srp_core.specs.Candidates.{passed, over, candidate_of, over_edges, candidates}

none_in : {X : Type 0} (x : X) → Contains [] x → ⊥
none_in x h = let l = h.1 in omega arith

head_in : {X : Type 0} (x : X) (xs : List X) → Contains (x ∷ xs) x
head_in x xs = (0, omega arith, refl)

tail_in : {X : Type 0} (y x : X) (xs : List X) → Contains xs x → Contains (y ∷ xs) x
tail_in y x xs h = (suc h.0, (let l = h.1 in omega (arith, l)), h.2)

record Reached (labels : List (Option Route)) (problem : Problem) (edge : Edge) (route : Route) : Type 0 where
  from : Route
  labelled : label labels edge.exporter ≡ Some from
  stepped : step_over problem edge from ≡ Some route
  passes : is_on (number problem edge.importer) (path_of route) ≡ false

passed_is : (own : ℕ) (r c : Route) (b : Bool) → cond b None (Some r) ≡ Some c → (b ≡ false) × (r ≡ c)
passed_is own r c true e = absurd (cc)
passed_is own r c false e = (refl, cc)

then_some : (o : Option Route) (f : Route → Option Route) (c : Route) → option_and_then f o ≡ Some c → (r : Route) × (o ≡ Some r) × (f r ≡ Some c)
then_some None f c e = absurd (cc)
then_some (Some r) f c e = (r, refl, e)

pub over_candidate : (P : Problem) (L : List (Option Route)) (e : Edge) (c : Route) → over P L e ≡ Some c → IsCandidateOver P L e c
over_candidate P L e c h =
    let a = then_some (label L e.exporter) (λ from. option_and_then (passed (number P e.importer)) (step_over P e from)) c h in
    let b = then_some (step_over P e a.0) (passed (number P e.importer)) c a.2 in
    let d = passed_is (number P e.importer) b.0 c (is_on (number P e.importer) (path_of b.0)) b.2 in
    record { from = a.0; labelled = a.1; stepped = b.1 ∙ ap Some d.1; passes = ap (λ r. is_on (number P e.importer) (path_of r)) (sym d.1) ∙ d.0 }

pub candidate_over : (P : Problem) (L : List (Option Route)) (e : Edge) (c : Route) → IsCandidateOver P L e c → over P L e ≡ Some c
candidate_over P L e c o =
    let f = λ (from : Route). option_and_then (passed (number P e.importer)) (step_over P e from) in
    ap (option_and_then f) o.labelled ∙ ap (option_and_then (passed (number P e.importer))) o.stepped ∙ ap (λ b. cond b None (Some c)) o.passes

listed_is : (place : Option ℕ) (o : Option Route) (k : Candidate) → Contains (candidate_of place o) k → o ≡ Some k.route
listed_is place None k h = absurd (none_in k h)
listed_is place (Some r) k (zero, l, e) = ap (λ (q : Candidate). Some q.route) e
listed_is place (Some r) k (suc n, l, e) = absurd (omega arith)

listed_in : (place : Option ℕ) (o : Option Route) (c : Route) → o ≡ Some c → Contains (candidate_of place o) (record { edge = place; route = c })
listed_in place o c e = subst (λ q. Contains (candidate_of place q) (record { edge = place; route = c })) (sym e)
    (head_in (record { edge = place; route = c }) [])

record Source (P : Problem) (L : List (Option Route)) (u : ℕ) (edges : List Edge) (c : Route) : Type 0 where
  edge : Edge
  edge_in : Contains edges edge
  importer : edge.importer ≡ u
  is_over : IsCandidateOver P L edge c

edges_sound : (P : Problem) (L : List (Option Route)) (u place : ℕ) (edges : List Edge) (k : Candidate) → Contains (over_edges P L u place edges) k →
    Source P L u edges k.route
unfolding over_edges
edges_sound P L u place [] k h = absurd (none_in k h)
edges_sound P L u place (e ∷ es) k h =
    let here = cond (nat_eq e.importer u) (candidate_of (Some place) (over P L e)) [] in
    elim (Contains-append_cases here (over_edges P L u (place + 1) es) k h) [
      | inr rest ↦ let s = edges_sound P L u (place + 1) es k rest in
          record { edge = s.edge; edge_in = tail_in e s.edge es s.edge_in; importer = s.importer; is_over = s.is_over }
      | inl now ↦ elim (cases_Bool (nat_eq e.importer u)) [
        | inl t ↦ record {
          edge = e;
          edge_in = head_in e es;
          importer = eqb-true e.importer u t;
          is_over =
              over_candidate P L e k.route (listed_is (Some place) (over P L e) k
              (subst (λ b. Contains (cond b (candidate_of (Some place) (over P L e)) []) k) t now));
        }
        | inr f ↦ absurd (none_in k (subst (λ b. Contains (cond b (candidate_of (Some place) (over P L e)) []) k) f now))
      ]
    ]

pub candidates_sound : (P : Problem) (L : List (Option Route)) (u : ℕ) (k : Candidate) → Contains (candidates P L u) k → IsCandidate P L u k.route
unfolding candidates
candidates_sound P L u k h = elim (Contains-append_cases (candidate_of None (initial P u)) (over_edges P L u 0 P.edges) k h) [
  | inl now ↦ of_init (listed_is None (initial P u) k now)
  | inr rest ↦ let s = edges_sound P L u 0 P.edges k rest in of_edge s.edge s.edge_in s.importer s.is_over
]

record Found (list : List Candidate) (c : Route) : Type 0 where
  candidate : Candidate
  inside : Contains list candidate
  same : candidate.route ≡ c

edges_complete : (P : Problem) (L : List (Option Route)) (u place n : ℕ) (edges : List Edge) (e : Edge) (c : Route) → n < length edges →
    slice_index_or edges n e ≡ e → e.importer ≡ u → IsCandidateOver P L e c → Found (over_edges P L u place edges) c
unfolding over_edges
edges_complete P L u place n [] e c l h imp o = absurd (omega arith)
edges_complete P L u place zero (d ∷ es) e c l h imp o =
    let k : Candidate = record { edge = Some place; route = c } in
    let t : nat_eq d.importer u ≡ true = eq-eqb d.importer u (ap (λ (q : Edge). q.importer) h ∙ imp) in
    let is : over P L d ≡ Some c = ap (over P L) h ∙ candidate_over P L e c o in
    let here = cond (nat_eq d.importer u) (candidate_of (Some place) (over P L d)) [] in
    let inside : Contains here k = subst (λ b. Contains (cond b (candidate_of (Some place) (over P L d)) []) k) (sym t)
    (listed_in (Some place) (over P L d) c is) in
    record { candidate = k; inside = Contains-append_left here (over_edges P L u (place + 1) es) k inside; same = refl }
edges_complete P L u place (suc n) (d ∷ es) e c l h imp o =
    let here = cond (nat_eq d.importer u) (candidate_of (Some place) (over P L d)) [] in
    let f = edges_complete P L u (place + 1) n es e c (omega arith) h imp o in
    record { candidate = f.candidate; inside = Contains-append_right here (over_edges P L u (place + 1) es) f.candidate f.inside; same = f.same }

pub candidates_complete : (P : Problem) (L : List (Option Route)) (u : ℕ) (c : Route) → IsCandidate P L u c → (k : Candidate) × Contains (candidates P L u) k
    × (k.route ≡ c)
unfolding candidates
candidates_complete P L u c (of_init e) = (
  record { edge = None; route = c },
  Contains-append_left (candidate_of None (initial P u)) (over_edges P L u 0 P.edges) (record { edge = None; route = c })
      (listed_in None (initial P u) c e),
  refl,
)
candidates_complete P L u c (of_edge e i imp o) =
    let f = edges_complete P L u 0 i.0 P.edges e c i.1 i.2 imp o in
    (f.candidate, Contains-append_right (candidate_of None (initial P u)) (over_edges P L u 0 P.edges) f.candidate f.inside, f.same)

-- one edge more of the list
pub edge_more : (P : Problem) (L : List (Option Route)) (u place : ℕ) (edge : Edge) (edges rest : List Edge) → rest ≡ edge ∷ edges →
    over_edges P L u place rest ≡ cond (nat_eq edge.importer u) (candidate_of (Some place) (over P L edge)) [] ++ over_edges P L u (place + 1) edges
unfolding over_edges
edge_more P L u place edge edges rest e = ap (over_edges P L u place) e

pub edge_done : (P : Problem) (L : List (Option Route)) (u place : ℕ) → over_edges P L u place [] ≡ []
unfolding over_edges
edge_done P L u place = refl

pub candidates_are : (P : Problem) (L : List (Option Route)) (u : ℕ) → candidates P L u ≡ candidate_of None (initial P u) ++ over_edges P L u 0 P.edges
unfolding candidates
candidates_are P L u = refl

pub row_step : (P : Problem) (L : List (Option Route)) (u i : ℕ) (found found' all : List Candidate) (edge : Edge) → i < length P.edges →
    edge ≡ slice_index_or P.edges i edge → found ++ over_edges P L u i (drop i P.edges) ≡ all →
    ((edge.importer ≡ u) × (found' ≡ found ++ candidate_of (Some i) (over P L edge))) ⊎ ((edge.importer ≡ u → ⊥) × (found' ≡ found)) →
    found' ++ over_edges P L u (i + 1) (drop (i + 1) P.edges) ≡ all
row_step P L u i found found' all edge h e before branch =
    let next : drop i P.edges ≡ edge ∷ drop (i + 1) P.edges = drop-cons P.edges i edge h ∙ ap (λ d. d ∷ drop (suc i) P.edges) (sym e)
    ∙ ap (λ n. edge ∷ drop n P.edges) (sym (add-one i)) in
    let more = edge_more P L u i edge (drop (i + 1) P.edges) (drop i P.edges) next in
    let rest = over_edges P L u (i + 1) (drop (i + 1) P.edges) in
    elim branch [
      | inl b ↦ ap (λ l. l ++ rest) b.1 ∙ append_assoc found (candidate_of (Some i) (over P L edge)) rest
          ∙ sym (ap (λ l. found ++ l) (more ∙ ap (λ t. cond t (candidate_of (Some i) (over P L edge)) [] ++ rest) (eq-eqb edge.importer u b.0))) ∙ before
      | inr b ↦ ap (λ l. l ++ rest) b.1 ∙ sym (ap (λ l. found ++ l)
          (more ∙ ap (λ t. cond t (candidate_of (Some i) (over P L edge)) [] ++ rest) (ne_eqb edge.importer u b.0))) ∙ before
    ]
