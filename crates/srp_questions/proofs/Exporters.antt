-- The exporters of the edges that tie.
use Rattle.std.proofs.Common.{◌≡◌, ◌≢◌, ◌⊎◌, ℕ, zero, suc, ◌+◌, ◌-◌, ◌<◌, ◌≤◌, Bool, true, false, cond, List, [], ◌∷◌, ◌++◌, length, take, get_or, fold, refl, sym, ap, ◌∙◌, subst, arith, inl, inr, Option, Some, None}
use Rattle.std.specs.Prelude.{Contains, slice_index_or}
use Rattle.std.specs.List.{AllWithin}
use Rattle.std.specs.List.Sorted.{IsNonDecreasingBy}
use Rattle.std.proofs.lemmas.Bool.{cases_lt, cases_order}
use Rattle.std.proofs.lemmas.List.{get_or_default}
use Rattle.std.proofs.Math.ListN.{get_or-append}
use Rattle.std.proofs.Math.Seq.{get_or-append_seam}
use Rattle.base_kit.specs.Sets.{IsAscending, with_number}
use Rattle.base_kit.specs.declared.act_graph.Edge.{Edge}
use Rattle.base_kit.proofs.Elements.{In, contains_in, in_contains}
use Rattle.base_kit.proofs.Members.{with_less, with_same, with_more, ascending_with}
use Rattle.srp_core.specs.declared.route.Route.{Route}
use Rattle.srp_core.specs.Candidates.{over}
use Rattle.srp_core.specs.Problem.{Problem, key_of, Precedes, AreOrdered}
use Rattle.srp_core.specs.Stability.{label}
use Rattle.srp_core.proofs.CandidateLists.{over_candidate, candidate_over}
use Rattle.route_offers.specs.Offers.{AreOwn}
use Rattle.route_offers.proofs.OwnEdges.{own_of, own_at, own_length}
use Rattle.srp_questions.specs.NextHops.{AreNextOf}
use Rattle.srp_questions.specs.Ties.{has_key_of, with_tied, tied_exporters}
use Rattle.srp_questions.proofs.EqualKeys.{tied, ties}

-- ---- a number put in

pub put_in : (n : ℕ) (xs : List ℕ) (v : ℕ) → In (with_number n xs) v → (n ≡ v) ⊎ In xs v
put_in n [] v (inl e) = inl e
put_in n [] v (inr never) = absurd never
put_in n (x ∷ xs) v i = elim (cases_order x n) [
  | inl e ↦ inr (subst (λ (l : List ℕ). In l v) (with_same n x xs e) i)
  | inr (inl less) ↦ elim (subst (λ (l : List ℕ). In l v) (with_less n x xs less) i) [
    | inl e ↦ inr (inl e)
    | inr later ↦ elim (put_in n xs v later) [ inl new ↦ inl new | inr old ↦ inr (inr old) ]
  ]
  | inr (inr more) ↦ elim (subst (λ (l : List ℕ). In l v) (with_more n x xs more) i) [ inl e ↦ inl e | inr old ↦ inr old ]
]

pub has_put : (n : ℕ) (xs : List ℕ) → In (with_number n xs) n
has_put n [] = inl refl
has_put n (x ∷ xs) = elim (cases_order x n) [
  | inl e ↦ subst (λ (l : List ℕ). In l n) (sym (with_same n x xs e)) (inl e)
  | inr (inl less) ↦ subst (λ (l : List ℕ). In l n) (sym (with_less n x xs less)) (inr (has_put n xs))
  | inr (inr more) ↦ subst (λ (l : List ℕ). In l n) (sym (with_more n x xs more)) (inl refl)
]

pub keeps_put : (n : ℕ) (xs : List ℕ) (v : ℕ) → In xs v → In (with_number n xs) v
keeps_put n [] v i = absurd i
keeps_put n (x ∷ xs) v i = elim (cases_order x n) [
  | inl e ↦ subst (λ (l : List ℕ). In l v) (sym (with_same n x xs e)) i
  | inr (inl less) ↦ subst (λ (l : List ℕ). In l v) (sym (with_less n x xs less))
      (elim i [ inl here ↦ inl here | inr later ↦ inr (keeps_put n xs v later) ])
  | inr (inr more) ↦ subst (λ (l : List ℕ). In l v) (sym (with_more n x xs more)) (inr i)
]

last_behind : (x y : ℕ) (ys : List ℕ) → get_or (x ∷ y ∷ ys) (length (x ∷ y ∷ ys) - 1) 0 ≡ get_or (y ∷ ys) (length (y ∷ ys) - 1) 0
last_behind x y ys = let e : length (x ∷ y ∷ ys) - 1 ≡ suc (length (y ∷ ys) - 1) = omega arith in ap (λ (k : ℕ). get_or (x ∷ y ∷ ys) k 0) e

-- no number before is above it, and the last is it
pub put_again : (n : ℕ) (xs : List ℕ) → ((v : ℕ) → In xs v → v ≤ n) → IsAscending xs → 0 < length xs → get_or xs (length xs - 1) 0 ≡ n → with_number n xs ≡ xs
put_again n [] below up some last = absurd (omega arith)
put_again n (x ∷ []) below up some last = with_same n x [] last
put_again n (x ∷ y ∷ ys) below up some last =
    let less = up.0.0 in
    let top = below y (inr (inl refl)) in
    with_less n x (y ∷ ys) (omega arith) ∙ ap (λ (l : List ℕ). x ∷ l)
    (put_again n (y ∷ ys) (λ v i. below v (inr i)) up.1 (omega arith) (sym (last_behind x y ys) ∙ last))

-- no number before is above it, and the last is another one
pub put_last : (n : ℕ) (xs : List ℕ) → ((v : ℕ) → In xs v → v ≤ n) → IsAscending xs → (0 < length xs → get_or xs (length xs - 1) 0 ≢ n) →
    with_number n xs ≡ xs ++ n ∷ []
put_last n [] below up other = refl
put_last n (x ∷ []) below up other =
    let top = below x (inl refl) in
    let differ = other (omega arith) in
    with_less n x [] (omega arith)
put_last n (x ∷ y ∷ ys) below up other =
    let less = up.0.0 in
    let top = below y (inr (inl refl)) in
    with_less n x (y ∷ ys) (omega arith) ∙ ap (λ (l : List ℕ). x ∷ l) (put_last n (y ∷ ys) (λ v i. below v (inr i)) up.1
    (λ some same. other (omega arith) (last_behind x y ys ∙ same)))

-- ---- the exporters of tying edges

module _ (P : Problem) (L : List (Option Route)) (r : Route) where
  with_tied_in : (found : List ℕ) (e : Edge) (b : Bool) (v : ℕ) → In (cond b (with_number e.exporter found) found) v → In found v
      ⊎ ((e.exporter ≡ v) × (b ≡ true))
  with_tied_in found e true v i = elim (put_in e.exporter found v i) [ inl new ↦ inr (new, refl) | inr old ↦ inl old ]
  with_tied_in found e false v i = inl i

  kept_tied : (found : List ℕ) (e : Edge) (b : Bool) (v : ℕ) → In found v → In (cond b (with_number e.exporter found) found) v
  kept_tied found e true v i = keeps_put e.exporter found v i
  kept_tied found e false v i = i

  own_tied : (found : List ℕ) (e : Edge) (b : Bool) → b ≡ true → In (cond b (with_number e.exporter found) found) e.exporter
  own_tied found e true is = has_put e.exporter found
  own_tied found e false is = absurd (cc)

  ascending_tied : (found : List ℕ) (e : Edge) (b : Bool) → IsAscending found → IsAscending (cond b (with_number e.exporter found) found)
  ascending_tied found e true up = ascending_with e.exporter found up
  ascending_tied found e false up = up

  -- an edge of these that ties has this exporter
  record HasTied (edges : List Edge) (v : ℕ) : Type 0 where
    edge : Edge
    inside : In edges edge
    exporter : edge.exporter ≡ v
    ties : has_key_of P r (over P L edge) ≡ true

  exporters_in : (edges : List Edge) (found : List ℕ) (v : ℕ) → In (fold (with_tied P L r) found edges) v → In found v ⊎ HasTied edges v
  exporters_in [] found v i = inl i
  exporters_in (e ∷ edges) found v i = elim (exporters_in edges (with_tied P L r found e) v i) [
    | inl before ↦ elim (with_tied_in found e (has_key_of P r (over P L e)) v before) [
      | inl old ↦ inl old
      | inr new ↦ inr (record { edge = e; inside = inl refl; exporter = new.0; ties = new.1 })
    ]
    | inr later ↦ inr (record { edge = later.edge; inside = inr later.inside; exporter = later.exporter; ties = later.ties })
  ]

  exporters_kept : (edges : List Edge) (found : List ℕ) (v : ℕ) → In found v → In (fold (with_tied P L r) found edges) v
  exporters_kept [] found v i = i
  exporters_kept (e ∷ edges) found v i = exporters_kept edges (with_tied P L r found e) v (kept_tied found e (has_key_of P r (over P L e)) v i)

  exporters_all : (edges : List Edge) (found : List ℕ) (e : Edge) → In edges e → has_key_of P r (over P L e) ≡ true →
      In (fold (with_tied P L r) found edges) e.exporter
  exporters_all [] found e i is = absurd i
  exporters_all (d ∷ edges) found e (inl here) is = exporters_kept edges (with_tied P L r found d) e.exporter
      (subst (λ (x : Edge). In (with_tied P L r found d) x.exporter) here
      (own_tied found d (has_key_of P r (over P L d)) (ap (λ (x : Edge). has_key_of P r (over P L x)) here ∙ is)))
  exporters_all (d ∷ edges) found e (inr later) is = exporters_all edges (with_tied P L r found d) e later is

  exporters_ascend : (edges : List Edge) (found : List ℕ) → IsAscending found → IsAscending (fold (with_tied P L r) found edges)
  exporters_ascend [] found up = up
  exporters_ascend (e ∷ edges) found up = exporters_ascend edges (with_tied P L r found e) (ascending_tied found e (has_key_of P r (over P L e)) up)

  pub tied_ascend : (edges : List Edge) → IsAscending (tied_exporters P L r edges)
  tied_ascend edges = exporters_ascend edges [] tt

  taken_at : (edges : List Edge) (k : ℕ) (e : Edge) → In (take k edges) e → (j : ℕ) × (j < k) × (j < length edges) × (get_or edges j e ≡ e)
  taken_at edges zero e i = absurd i
  taken_at [] (suc k) e i = absurd i
  taken_at (d ∷ edges) (suc k) e (inl here) = (zero, omega arith, omega arith, here)
  taken_at (d ∷ edges) (suc k) e (inr later) =
      let t = taken_at edges k e later in let less = t.1 in let inside = t.2 in (suc t.0, omega arith, omega arith, t.3)

  -- those of the first edges are not above that of the next
  pub tied_below : (edges : List Edge) (k : ℕ) (d : Edge) → IsNonDecreasingBy (λ e. e.exporter) edges → k < length edges →
      (found : List ℕ) → found ≡ tied_exporters P L r (take k edges) → (v : ℕ) → In found v → v ≤ (slice_index_or edges k d).exporter
  tied_below edges k d up inside found are v i =
      elim (exporters_in (take k edges) [] v (subst (λ (l : List ℕ). In l v) are i)) [
        | inl never ↦ absurd never
        | inr t ↦
            let at = taken_at edges k t.edge t.inside in
            let less = at.1 in
            let rises = up at.0 k t.edge (omega arith) inside in
            let first : (get_or edges at.0 t.edge).exporter ≡ v = ap (λ (e : Edge). e.exporter) at.3 ∙ t.exporter in
            let second : (get_or edges k t.edge).exporter ≡ (slice_index_or edges k d).exporter =
            ap (λ (e : Edge). e.exporter) (get_or_default edges k t.edge d inside) in
            omega (arith, rises, first, second)
      ]

  -- they are those to whom the router forwards
  pub next_are : (u : ℕ) (own : List Edge) → AreOwn P u own → label L u ≡ Some r → AreNextOf P L u (tied_exporters P L r own)
  next_are u own are labelled = record {
    ascending = tied_ascend own;
    sound = λ v c. elim (exporters_in own [] v (in_contains (tied_exporters P L r own) v c)) [
      | inl never ↦ absurd never
      | inr t ↦
          let o = are.only t.edge (contains_in own t.edge t.inside) in
          let k = tied P r (over P L t.edge) t.ties in
          record {
            route = r;
            labelled = labelled;
            edge = t.edge;
            edge_in = o.0;
            importer = o.1;
            exporter = t.exporter;
            candidate = k.0;
            over = over_candidate P L t.edge k.0 k.1;
            same = k.2;
          }
    ];
    all = λ v f. (
        let one : f.route ≡ r = (let a = f.labelled in cc) in
        let is = ties P r (over P L f.edge) f.candidate (candidate_over P L f.edge f.candidate f.over) (f.same ∙ ap (key_of P) one) in
        subst (Contains (tied_exporters P L r own)) f.exporter
        (contains_in (tied_exporters P L r own) f.edge.exporter
        (exporters_all own [] f.edge (in_contains own f.edge (are.all f.edge f.edge_in f.importer)) is)));
  }

pub next_none : (P : Problem) (L : List (Option Route)) (u : ℕ) → label L u ≡ None → AreNextOf P L u []
next_none P L u none = record {
  ascending = tt;
  sound = λ v c. absurd (let l = c.1 in omega arith);
  all = λ v f. absurd (let a = f.labelled in cc);
}

-- ---- by exporter

ordered_at : (edges : List Edge) → AreOrdered edges → (i j : ℕ) (d : Edge) → i < j → j < length edges →
    Precedes (slice_index_or edges i d) (slice_index_or edges j d)
ordered_at [] up i j d less inside = absurd (omega arith)
ordered_at (e ∷ edges) up zero zero d less inside = absurd (omega arith)
ordered_at (e ∷ edges) up zero (suc j) d less inside = up.0 j d (omega arith)
ordered_at (e ∷ edges) up (suc i) zero d less inside = absurd (omega arith)
ordered_at (e ∷ edges) up (suc i) (suc j) d less inside = ordered_at edges up.1 i j d (omega arith) (omega arith)

rises : (a b : Edge) (u : ℕ) → Precedes a b → a.importer ≡ u → b.importer ≡ u → a.exporter ≤ b.exporter
rises a b u (inl less) p q = absurd (omega arith)
rises a b u (inr s) p q = elim s.1 [ inl less ↦ omega arith | inr t ↦ (let e = t.0 in omega arith) ]

-- the edges of one router stand by exporter
pub own_rise : (edges : List Edge) (u first end : ℕ) → AreOrdered edges → first ≤ end → end ≤ length edges →
    AllWithin (λ edge. edge.importer ≡ u) edges first end →
    IsNonDecreasingBy (λ edge. edge.exporter) (own_of edges first end)
own_rise edges u first end up forward inside own i j d le lt =
    let total = own_length edges first end forward inside in
    let behind : first + j < end = omega (arith, lt, total, le) in
    let before : first + i < end = omega (arith, behind, le) in
    let at_i = ap (λ (e : Edge). e.exporter) (own_at edges first end i d inside before) in
    let at_j = ap (λ (e : Edge). e.exporter) (own_at edges first end j d inside behind) in
    elim (cases_lt i j) [
      | inl less ↦
          let p = ordered_at edges up (first + i) (first + j) d (omega arith) (omega arith) in
          let r = rises (slice_index_or edges (first + i) d) (slice_index_or edges (first + j) d) u p (own (first + i) d (omega arith) before)
          (own (first + j) d (omega arith) behind) in
          omega (arith, r, at_i, at_j)
      | inr same ↦
          let e : i ≡ j = omega arith in
          let x = ap (λ (k : ℕ). (get_or (own_of edges first end) k d).exporter) e in
          omega (arith, x)
    ]

-- ---- one list more

pub list_more : (Q : ℕ → List ℕ → Type 0) (k : ℕ) (lists more : List (List ℕ)) (next : List ℕ) → length lists ≡ k → more ≡ lists ++ next ∷ [] →
    ((u : ℕ) → u < k → Q u (slice_index_or lists u [])) → Q k next → (u : ℕ) → u < k + 1 → Q u (slice_index_or more u [])
list_more Q k lists more next total are each here u less = subst (λ (l : List (List ℕ)). Q u (get_or l u [])) (sym are) (elim (cases_lt u k) [
  | inl before ↦ subst (Q u) (sym (get_or-append lists (next ∷ []) [] u (omega arith))) (each u before)
  | inr le ↦
      let last : length lists ≡ u = omega arith in
      let at : get_or (lists ++ next ∷ []) u [] ≡ next = ap (λ (n : ℕ). get_or (lists ++ next ∷ []) n []) (sym last)
      ∙ get_or-append_seam lists next [] [] in
      subst (λ n. Q n (get_or (lists ++ next ∷ []) u [])) (sym total ∙ last) (subst (Q k) (sym at) here)
])
