-- What a router takes from the list of its candidates.
use Rattle.std.proofs.Common.{◌≡◌, ◌≢◌, ℕ, zero, suc, ◌+◌, ◌<◌, ◌≤◌, Bool, true, false, cond, List, [], ◌∷◌, ◌++◌, length, get_or, Option, Some, None, refl, sym, ◌∙◌, ap, subst, arith, inl, inr}
use Rattle.std.specs.Prelude.{All, nat_eq, slice_get, slice_index, option_and_then, if◌then◌else◌}
use Rattle.std.specs.Option.{option_map_or}
use Rattle.std.proofs.lemmas.Bool.{cases_lt}
use Rattle.std.proofs.lemmas.Bool.Decides.{nat_tests}
use Rattle.std.proofs.lemmas.List.Elements.{All-contains}
use Rattle.std.proofs.lemmas.Option.{slice_get_within}
use Rattle.base_kit.specs.declared.act_graph.Edge.{Edge}
use Rattle.base_kit.proofs.Elements.{In, contains_in, in_contains, in_right, append_in, in_left, in_get, get_in}
use Rattle.by_key.proofs.OrderedByKey.{IsOrdered, ordered_append}
use Rattle.srp_core.specs.declared.route.Route.{Route}
use Rattle.srp_core.specs.declared.route.Candidate.{Candidate}
use Rattle.srp_core.specs.Routes.{Key, path_of, is_on}
use Rattle.srp_core.specs.Problem.{Problem, number, initial, step_over, key_of, Precedes, AreOrdered}
use Rattle.srp_core.specs.Stability.{label, IsCandidateOver}
use Rattle.srp_core.specs.Candidates.{passed, over, candidate_of, over_edges, candidates}
use Rattle.solution_lift.specs.Carrying.{Takes, TakesNone}
use Rattle.solution_lift.specs.Sides.{is_edge_from, is_from}
use Rattle.solution_lift.proofs.TaskOrder.{ordered_get}

-- ---- the route over an edge

module _ (P : Problem) (E : List (Option Route)) where
  given : (e : Edge) (r : Route) → IsCandidateOver P E e r → over P E e ≡ Some r
  given e r o =
      ap (option_and_then (λ from. option_and_then (passed (number P e.importer)) (step_over P e from))) o.labelled
      ∙ ap (option_and_then (passed (number P e.importer))) o.stepped
      ∙ ap (λ (b : Bool). if b then None else Some r) o.passes

  passes_at : (own : ℕ) (c r : Route) (b : Bool) → is_on own (path_of c) ≡ b → cond b None (Some c) ≡ Some r → (c ≡ r) × (is_on own (path_of r) ≡ false)
  passes_at own c r true e h = absurd cc
  passes_at own c r false e h = let same : c ≡ r = cc in (same, ap (λ (x : Route). is_on own (path_of x)) (sym same) ∙ e)

  stepped_at : (e : Edge) (from r : Route) (s : Option Route) → label E e.exporter ≡ Some from → step_over P e from ≡ s →
      option_and_then (passed (number P e.importer)) s ≡ Some r → IsCandidateOver P E e r
  stepped_at e from r None l s h = absurd cc
  stepped_at e from r (Some c) l s h =
      let p = passes_at (number P e.importer) c r (is_on (number P e.importer) (path_of c)) refl h in
      record { from = from; labelled = l; stepped = s ∙ ap Some p.0; passes = p.1 }

  labelled_at : (e : Edge) (r : Route) (o : Option Route) → label E e.exporter ≡ o →
      option_and_then (λ from. option_and_then (passed (number P e.importer)) (step_over P e from)) o ≡ Some r → IsCandidateOver P E e r
  labelled_at e r None l h = absurd cc
  labelled_at e r (Some from) l h = stepped_at e from r (step_over P e from) l refl h

  gives : (e : Edge) (r : Route) → over P E e ≡ Some r → IsCandidateOver P E e r
  gives e r h = labelled_at e r (label E e.exporter) refl h

  -- ---- the list of candidates

  module _ (u : ℕ) where
    record IsListed (edges : List Edge) (place : ℕ) (k : Candidate) : Type 0 where
      j : ℕ
      edge : Edge
      at : slice_get edges j ≡ Some edge
      place_is : k.edge ≡ Some (place + j)
      importer : edge.importer ≡ u
      over_it : over P E edge ≡ Some k.route

    abbrev here : Bool → ℕ → Option Route → List Candidate
    here b place o = if b then candidate_of (Some place) o else []

    listed_here : (e : Edge) (es : List Edge) (place : ℕ) (k : Candidate) (b : Bool) (o : Option Route) → nat_eq e.importer u ≡ b → over P E e ≡ o →
        In (here b place o) k → IsListed (e ∷ es) place k
    listed_here e es place k false o t g at = absurd at
    listed_here e es place k true None t g at = absurd at
    listed_here e es place k true (Some r) t g (inr none) = absurd none
    listed_here e es place k true (Some r) t g (inl same) = record {
      j = 0;
      edge = e;
      at = refl;
      place_is = ap (λ (c : Candidate). c.edge) (sym same) ∙ ap Some (let z : place ≡ place + 0 = omega arith in z);
      importer = grind (arith, nat_tests);
      over_it = g ∙ ap (λ (c : Candidate). Some c.route) same;
    }

    in_over_edges : (edges : List Edge) (place : ℕ) (k : Candidate) → In (over_edges P E u place edges) k → IsListed edges place k
    unfolding over_edges
    in_over_edges [] place k at = absurd at
    in_over_edges (e ∷ es) place k at = elim (append_in (here (nat_eq e.importer u) place (over P E e)) (over_edges P E u (place + 1) es) k at) [
      | inl first ↦ listed_here e es place k (nat_eq e.importer u) (over P E e) refl refl first
      | inr later ↦
          let l = in_over_edges es (place + 1) k later in
          record {
            j = suc l.j;
            edge = l.edge;
            at = l.at;
            place_is = l.place_is ∙ ap Some (let z : place + 1 + l.j ≡ place + suc l.j = omega arith in z);
            importer = l.importer;
            over_it = l.over_it;
          }
    ]

    at_here : (place : ℕ) (r : Route) (b : Bool) (o : Option Route) → b ≡ true → o ≡ Some r → In (here b place o) (record { edge = Some place; route = r })
    at_here place r b o t g = subst (λ (c : Bool). In (here c place o) (record { edge = Some place; route = r })) (sym t)
        (subst (λ (p : Option Route). In (candidate_of (Some place) p) (record { edge = Some place; route = r })) (sym g) (inl refl))

    over_edges_in : (edges : List Edge) (place j : ℕ) (e : Edge) (r : Route) → slice_get edges j ≡ Some e → e.importer ≡ u → over P E e ≡ Some r →
        In (over_edges P E u place edges) (record { edge = Some (place + j); route = r })
    unfolding over_edges
    over_edges_in [] place j e r at imp g = absurd cc
    over_edges_in (x ∷ es) place zero e r at imp g =
        let same : x ≡ e = cc in
        let z : place ≡ place + 0 = omega arith in
        let test : nat_eq x.importer u ≡ true = (let i = ap (λ (y : Edge). y.importer) same in grind (arith, nat_tests)) in
        subst (λ (n : ℕ). In (here (nat_eq x.importer u) place (over P E x) ++ over_edges P E u (place + 1) es) (record { edge = Some n; route = r })) z
        (in_left (here (nat_eq x.importer u) place (over P E x)) (over_edges P E u (place + 1) es) _
        (at_here place r (nat_eq x.importer u) (over P E x) test (ap (over P E) same ∙ g)))
    over_edges_in (x ∷ es) place (suc j) e r at imp g =
        let z : place + 1 + j ≡ place + suc j = omega arith in
        in_right (here (nat_eq x.importer u) place (over P E x)) (over_edges P E u (place + 1) es) _
        (subst (λ (n : ℕ). In (over_edges P E u (place + 1) es) (record { edge = Some n; route = r })) z (over_edges_in es (place + 1) j e r at imp g))

    -- of two candidates over edges the first has the lesser place
    EdgeBefore : Candidate → Candidate → Type 0
    EdgeBefore a b = (p q : ℕ) → a.edge ≡ Some p → b.edge ≡ Some q → p < q

    one_listed : (b : Bool) (place : ℕ) (o : Option Route) → IsOrdered EdgeBefore (here b place o)
    one_listed false place o = tt
    one_listed true place None = tt
    one_listed true place (Some r) = ((λ y none. absurd none), tt)

    edge_here : (b : Bool) (place : ℕ) (o : Option Route) (k : Candidate) → In (here b place o) k → k.edge ≡ Some place
    edge_here false place o k at = absurd at
    edge_here true place None k at = absurd at
    edge_here true place (Some r) k (inl same) = sym (ap (λ (c : Candidate). c.edge) same)
    edge_here true place (Some r) k (inr none) = absurd none

    by_edges : (edges : List Edge) (place : ℕ) → IsOrdered EdgeBefore (over_edges P E u place edges)
    unfolding over_edges EdgeBefore
    by_edges [] place = tt
    by_edges (e ∷ es) place =
        ordered_append EdgeBefore (here (nat_eq e.importer u) place (over P E e)) (over_edges P E u (place + 1) es)
        (one_listed (nat_eq e.importer u) place (over P E e)) (by_edges es (place + 1))
        (λ x y i j p q a b.
        (let first : Some p ≡ Some place = sym a ∙ edge_here (nat_eq e.importer u) place (over P E e) x i in
        let l = in_over_edges es (place + 1) y j in
        let second : Some q ≡ Some (place + 1 + l.j) = sym b ∙ l.place_is in
        let m : p ≡ place = cc in
        let n : q ≡ place + 1 + l.j = cc in
        omega arith))

    start_listed : (o : Option Route) → IsOrdered EdgeBefore (candidate_of None o)
    start_listed None = tt
    start_listed (Some r) = ((λ y none. absurd none), tt)

    no_edge : (o : Option Route) (k : Candidate) → In (candidate_of None o) k → k.edge ≡ None
    no_edge None k at = absurd at
    no_edge (Some r) k (inl same) = sym (ap (λ (c : Candidate). c.edge) same)
    no_edge (Some r) k (inr none) = absurd none

    candidates_by_edges : IsOrdered EdgeBefore (candidates P E u)
    unfolding candidates EdgeBefore
    candidates_by_edges = ordered_append EdgeBefore (candidate_of None (initial P u)) (over_edges P E u 0 P.edges) (start_listed (initial P u))
        (by_edges P.edges 0)
        (λ x y i j p q a b. (let none = no_edge (initial P u) x i in absurd (cc)))

    over_edge : (k : Candidate) (p : ℕ) → In (candidates P E u) k → k.edge ≡ Some p → IsListed P.edges 0 k
    unfolding candidates
    over_edge k p at e = elim (append_in (candidate_of None (initial P u)) (over_edges P E u 0 P.edges) k at) [
      | inl start ↦ (let none = no_edge (initial P u) k start in absurd (cc))
      | inr later ↦ in_over_edges P.edges 0 k later
    ]

    candidate_in : (j : ℕ) (e : Edge) (r : Route) → slice_get P.edges j ≡ Some e → e.importer ≡ u → IsCandidateOver P E e r →
        In (candidates P E u) (record { edge = Some (0 + j); route = r })
    unfolding candidates
    candidate_in j e r at imp o = in_right (candidate_of None (initial P u)) (over_edges P E u 0 P.edges) _ (over_edges_in P.edges 0 j e r at imp (given e r o))

    -- ---- the first that fits

    module _ (sides : List ℕ) (source : ℕ) (key : Key) where
      from_side : (j : ℕ) (e : Edge) (r : Route) → slice_get P.edges j ≡ Some e → slice_index sides e.exporter ≡ source →
          is_from P.edges sides source (record { edge = Some (0 + j); route = r }) ≡ true
      from_side j e r at x =
          ap (λ (n : ℕ). is_edge_from P.edges sides source (Some n)) (let z : 0 + j ≡ j = omega arith in z)
          ∙ ap (λ (o : Option Edge). option_map_or (λ (edge : Edge). nat_eq (slice_index sides edge.exporter) source) o false) at
          ∙ (let t : nat_eq (slice_index sides e.exporter) source ≡ true = grind (arith, nat_tests) in t)

      record Came (k : Candidate) : Type 0 where
        j : ℕ
        place : k.edge ≡ Some j
        edge : Edge
        at : slice_get P.edges j ≡ Some edge
        importer : edge.importer ≡ u
        exporter : slice_index sides edge.exporter ≡ source
        over_it : IsCandidateOver P E edge k.route

      came_at : (k : Candidate) (o : Option ℕ) → In (candidates P E u) k → k.edge ≡ o → is_edge_from P.edges sides source o ≡ true → Came k
      came_at k None at e f = absurd cc
      came_at k (Some p) at e f =
          let l = over_edge k p at e in
          let same : Some p ≡ Some (0 + l.j) = sym e ∙ l.place_is in
          let is : p ≡ l.j = (let z : p ≡ 0 + l.j = cc in omega arith) in
          let there : nat_eq (slice_index sides l.edge.exporter) source ≡ true =
          ap (λ (o : Option Edge). option_map_or (λ (edge : Edge). nat_eq (slice_index sides edge.exporter) source) o false)
          (sym (ap (slice_get P.edges) is ∙ l.at)) ∙ f in
          record {
            j = l.j;
            place = e ∙ ap Some is;
            edge = l.edge;
            at = l.at;
            importer = l.importer;
            exporter = grind (arith, nat_tests);
            over_it =
                gives l.edge k.route l.over_it;
          }

      came : (k : Candidate) → In (candidates P E u) k → is_from P.edges sides source k ≡ true → Came k
      came k at f = came_at k k.edge at refl f

      edges_by_exporter : (edges : List Edge) (i j : ℕ) (a b : Edge) → AreOrdered edges → i < j → slice_get edges i ≡ Some a → slice_get edges j ≡ Some b →
          Precedes a b
      edges_by_exporter [] i j a b o less at to = absurd cc
      edges_by_exporter (x ∷ xs) zero zero a b o less at to = absurd (omega arith)
      edges_by_exporter (x ∷ xs) zero (suc j) a b o less at to =
          subst (λ y. Precedes y b) (let same : x ≡ a = cc in same) (All-contains (Precedes x) xs b o.0 (contains_in xs b (get_in xs j b to)))
      edges_by_exporter (x ∷ xs) (suc i) zero a b o less at to = absurd (omega arith)
      edges_by_exporter (x ∷ xs) (suc i) (suc j) a b o less at to = edges_by_exporter xs i j a b o.1 (omega arith) at to

      no_greater : (a b : Edge) → Precedes a b → a.importer ≡ b.importer → a.exporter ≤ b.exporter
      no_greater a b (inl less) same = absurd (omega arith)
      no_greater a b (inr (e, inl less)) same = omega arith
      no_greater a b (inr (e, inr tie)) same = let t = tie.0 in omega arith

      abbrev NoneBefore : ℕ → Type 0
      NoneBefore i = (k : ℕ) (c : Candidate) → k < i → slice_get (candidates P E u) k ≡ Some c → is_from P.edges sides source c ≡ true → key_of P c.route ≢ key

      pub found : AreOrdered P.edges → (i : ℕ) (c : Candidate) → slice_get (candidates P E u) i ≡ Some c → is_from P.edges sides source c ≡ true →
          key_of P c.route ≡ key → NoneBefore i → Takes P sides E u source key c.route
      unfolding EdgeBefore
      found ordered i c at f k before =
          let w = came c (get_in (candidates P E u) i c at) f in
          record {
            edge = w.edge;
            edge_in = contains_in P.edges w.edge (get_in P.edges w.j w.edge w.at);
            importer = w.importer;
            exporter = w.exporter;
            over = w.over_it;
            keyed = k;
            least = λ other r has imp x o keyed.
                (let j = in_get P.edges other (in_contains P.edges other has) in
                let d : Candidate = record { edge = Some (0 + j.0); route = r } in
                let m = in_get (candidates P E u) d (candidate_in j.0 other r j.1 imp o) in
                elim (cases_lt m.0 i) [
                  | inl less ↦ absurd (before m.0 d less m.1 (from_side j.0 other r j.1 x) keyed)
                  | inr more ↦ elim (cases_lt i m.0) [
                    | inl later ↦
                        (let p = ordered_get EdgeBefore (candidates P E u) i m.0 c d candidates_by_edges later at m.1 w.j (0 + j.0) w.place refl in
                        no_greater w.edge other (edges_by_exporter P.edges w.j j.0 w.edge other ordered (omega arith) w.at j.1) (w.importer ∙ sym imp))
                    | inr same ↦
                        (let is : i ≡ m.0 = omega arith in
                        let one : Some c ≡ Some d = sym at ∙ ap (slice_get (candidates P E u)) is ∙ m.1 in
                        let cd : c ≡ d = cc in
                        let pl : Some w.j ≡ Some (0 + j.0) = sym w.place ∙ ap (λ (y : Candidate). y.edge) cd in
                        let jj : w.j ≡ j.0 = (let z : w.j ≡ 0 + j.0 = cc in omega arith) in
                        let ee : Some w.edge ≡ Some other = sym w.at ∙ ap (slice_get P.edges) jj ∙ j.1 in
                        let e : w.edge ≡ other = cc in
                        let x' = ap (λ (y : Edge). y.exporter) e in
                        omega arith)
                  ]
                ]);
          }

      pub not_found : NoneBefore (length (candidates P E u)) → TakesNone P sides E u source key
      not_found before = record {
        none = λ edge r has imp x o keyed.
            (let j = in_get P.edges edge (in_contains P.edges edge has) in
            let d : Candidate = record { edge = Some (0 + j.0); route = r } in
            let m = in_get (candidates P E u) d (candidate_in j.0 edge r j.1 imp o) in
            before m.0 d (slice_get_within (candidates P E u) m.0 d m.1) m.1 (from_side j.0 edge r j.1 x) keyed);
      }

      -- the same by a list that is that of the candidates
      pub takes_first : (list : List Candidate) → list ≡ candidates P E u → AreOrdered P.edges → (i : ℕ) (c : Candidate) (r : Route) →
          slice_get list i ≡ Some c → is_from P.edges sides source c ≡ true → key_of P c.route ≡ key → r ≡ c.route
          → ((k : ℕ) (d : Candidate) → k < i → slice_get list k ≡ Some d → is_from P.edges sides source d ≡ true → key_of P d.route ≢ key) →
          Takes P sides E u source key r
      takes_first list is ordered i c r at f k same before =
          subst (Takes P sides E u source key) (sym same)
          (found ordered i c (sym (ap (λ (ks : List Candidate). slice_get ks i) is) ∙ at) f k
          (λ j d less g. before j d less (ap (λ (ks : List Candidate). slice_get ks j) is ∙ g)))

      pub takes_none : (list : List Candidate) → list ≡ candidates P E u →
          ((k : ℕ) (d : Candidate) → k < length list → slice_get list k ≡ Some d → is_from P.edges sides source d ≡ true → key_of P d.route ≢ key) →
          TakesNone P sides E u source key
      takes_none list is before = not_found (λ j d less g. before j d (let l = ap (length {A = Candidate}) is in omega arith)
          (ap (λ (ks : List Candidate). slice_get ks j) is ∙ g))

pub get_is : {X : Type 0} (xs : List X) (k : ℕ) (x : X) → k < length xs → x ≡ get_or xs k x → slice_get xs k ≡ Some x
get_is [] k x h e = absurd (omega arith)
get_is (y ∷ ys) zero x h e = ap Some (sym e)
get_is (y ∷ ys) (suc k) x h e = get_is ys k x (omega arith) e

-- one candidate more does not fit
pub none_more : (Fits : ℕ → Candidate → Type 0) (list : List Candidate) (i : ℕ) (c : Candidate) → slice_get list i ≡ Some c →
    ((k : ℕ) (d : Candidate) → k < i → slice_get list k ≡ Some d → Fits k d) → Fits i c → (k : ℕ) (d : Candidate) → k < i + 1 → slice_get list k ≡ Some d →
    Fits k d
none_more Fits list i c at before here k d less g = elim (cases_lt k i) [
  | inl earlier ↦ before k d earlier g
  | inr more ↦
      let same : i ≡ k = omega arith in
      let one : Some c ≡ Some d = sym at ∙ ap (slice_get list) same ∙ g in
      let cd : c ≡ d = cc in
      subst (λ (e : Candidate). Fits k e) cd (subst (λ (n : ℕ). Fits n c) same here)
]

-- what holds of all holds of the one at a place
pub each_of : {X : Type 0} (Holds : X → Type 0) (items list : List X) → list ≡ items → All Holds items → (k : ℕ) (x : X) → slice_get list k ≡ Some x → Holds x
each_of Holds items list is all k x at = All-contains Holds items x all (contains_in items x (subst (λ xs. In xs x) is (get_in list k x at)))
