-- The order of a solution leads to a solution of the same keys.
use Rattle.std.proofs.Common.{◌≡◌, ◌≢◌, ℕ, suc, ◌<◌, List, [], ◌∷◌, set, Option, Some, None, refl, sym, ap, ◌∙◌, subst, arith, inl, inr}
use Rattle.std.specs.Prelude.{AllPairs}
use Rattle.std.specs.declared.cmp.Ordering.TheVariants.{Less}
use Rattle.std.proofs.lemmas.Bool.{cases_eq, cases_lt}
use Rattle.std.proofs.lemmas.List.{get_or-replicate, length-replicate, get_or_past}
use Rattle.base_kit.proofs.Elements.{In, contains_in, in_contains}
use Rattle.srp_core.specs.declared.route.Route.{Route}
use Rattle.srp_core.specs.Routes.{size_of, compare_keys}
use Rattle.srp_core.specs.Problem.{Problem, count, key_of, is_lone_number, IsProblem}
use Rattle.srp_core.specs.Stability.{label, IsCandidate, of_init, of_edge, IsStable, both_none, both_some}
use Rattle.srp_core.specs.Candidates.{candidates}
use Rattle.srp_core.proofs.CandidateLists.{candidates_complete}
use Rattle.srp_core.proofs.KeyOrder.{neither_better}
use Rattle.srp_core.proofs.Offers.{cases_label, AsGood}
use Rattle.srp_core.proofs.Matching.{IsMatching, identity, no_better}
use Rattle.srp_core.proofs.Filling.{IsEven, IsGood, IsFilled, nothing, offered_over, set_good, good_stable}
use Rattle.route_run.specs.Activations.{chosen_label, activated, labels_after, no_labels}
use Rattle.route_run.specs.Orders.{StandsFirst, StandsBefore, IsOrderOf, IsSolutionLike}
use Rattle.route_run.proofs.Routes.{not_less}
use Rattle.route_run.proofs.BestChoices.{chosen_nothing}
use Rattle.route_run.proofs.AtRest.{chosen_best, chosen_candidate, activated_other, activated_here, kept_same, no_labels_fit}
use Rattle.route_run.proofs.Runs.{all_in}

pub no_label : (P : Problem) (u : ℕ) → label (no_labels P) u ≡ None
no_label P u = elim (cases_lt u (count P)) [
  | inl h ↦ get_or-replicate (count P) u None None h
  | inr h ↦ get_or_past (no_labels P) u None (let l = length-replicate {A = Option Route} (count P) None in omega (arith, l, h))
]

-- ---- what stands before what

pub not_first : (o : Option Route) (u : ℕ) → StandsFirst o o u u → ⊥
not_first None u h = omega arith
not_first (Some r) u (inl less) = omega arith
not_first (Some r) u (inr same) = let l = same.1 in omega arith

-- of two labelled routers that before is no larger
no_larger : (o p : Option Route) (u v : ℕ) (r s : Route) → StandsFirst o p u v → o ≡ Some r → p ≡ Some s → size_of s < size_of r → ⊥
no_larger None p u v r s h e f less = cc
no_larger (Some r') None u v r s h e f less = cc
no_larger (Some r') (Some s') u v r s (inl small) e f less =
    let a : r' ≡ r = cc in let b : s' ≡ s = cc in let c = ap size_of a in let d = ap size_of b in omega arith
no_larger (Some r') (Some s') u v r s (inr same) e f less =
    let a : r' ≡ r = cc in let b : s' ≡ s = cc in let c = ap size_of a in let d = ap size_of b in let g = same.0 in omega arith

abbrev pub Sorted : List (Option Route) → List ℕ → Type 0
Sorted L [] = Unit {0}
Sorted L (u ∷ run) = ((v : ℕ) → In run v → StandsBefore L u v) × Sorted L run

pub sorted_pairs : (L : List (Option Route)) (run : List ℕ) → AllPairs (StandsBefore L) run → Sorted L run
sorted_pairs L [] h = tt
sorted_pairs L (u ∷ run) h = (
  (λ v i. (let c = contains_in run v i in let k = c.0 in let less = c.1 in subst (StandsBefore L u) c.2 (h 0 (suc c.0) v (omega arith) (omega arith)))),
  sorted_pairs L run (λ i j d less inside. h (suc i) (suc j) d (omega arith) (omega arith)),
)

module _ (P : Problem) (good : IsProblem P) (L : List (Option Route)) (st : IsStable P L) where
  abbrev Same : ℕ → ℕ → Type 0
  Same u v = u ≡ v × (u < count P)

  itself : IsMatching P P (λ u v. u ≡ v × (u < count P))
  itself = identity P good

  even : IsEven P (λ u v. u ≡ v × (u < count P)) L
  even = record { held = λ b a a' r x y e. record { route = r; labelled = subst (λ v. label L v ≡ Some r) (sym x.0 ∙ y.0) e; keyed = refl } }

  record IsReached (rest : List ℕ) (E : List (Option Route)) : Type 0 where
    fine : IsGood P P (λ u v. u ≡ v × (u < count P)) E L
    empty : (v : ℕ) → In rest v → label E v ≡ None
    filled : (v : ℕ) (s : Route) → v < count P → label L v ≡ Some s → ¬ In rest v → (r : Route) × (label E v ≡ Some r)

  start : (run : List ℕ) → IsOrderOf P L run → IsReached run (no_labels P)
  start run order = record {
    fine = record {
      supported = record { fitting = no_labels_fit P; held = λ u r e. absurd (nothing P u r e) };
      tied = record { held = λ b a r x e. absurd (nothing P b r e) };
    };
    empty = λ v i. no_label P v;
    filled = λ v s h e out. absurd (out (in_contains run v (order.each v h)));
  }

  better_none : (E : List (Option Route)) → IsGood P P (λ u v. u ≡ v × (u < count P)) E L → (u : ℕ) (c : Route) → u < count P → IsCandidate P E u c →
      AsGood P L u c
  better_none E fine u c h cand = no_better P P (λ u v. u ≡ v × (u < count P)) itself good good L st even.held E fine.supported.fitting fine.tied.held u u c
      (refl, h) cand

  -- a candidate of the key of the solution's label
  as_given : (E : List (Option Route)) → IsGood P P (λ u v. u ≡ v × (u < count P)) E L → (u : ℕ) (s : Route) → u < count P → label L u ≡ Some s →
      label E u ≡ None → IsFilled (λ u v. u ≡ v × (u < count P)) E L (size_of s) → IsCandidate P L u s → (c : Route) × IsCandidate P E u c
      × (key_of P c ≡ key_of P s)
  as_given E fine u s h lab empty before (of_init e) = (s, of_init e, refl)
  as_given E fine u s h lab empty before (of_edge e i imp over) =
      let o = offered_over P P (λ u v. u ≡ v × (u < count P)) itself good good L st even E fine u u s (refl, h) lab empty before e i imp over in
      (o.route, of_edge o.edge o.edge_in o.importer o.over, o.keyed)

  -- the router takes a route of that key
  takes : (E : List (Option Route)) → IsGood P P (λ u v. u ≡ v × (u < count P)) E L → (u : ℕ) (s : Route) → u < count P → label L u ≡ Some s →
      label E u ≡ None → IsFilled (λ u v. u ≡ v × (u < count P)) E L (size_of s)
      → (c : Route) × (chosen_label P E u ≡ Some c) × IsCandidate P E u c × (key_of P c ≡ key_of P s)
  takes E fine u s h lab empty before =
      let g = as_given E fine u s h lab empty before (st.held u s h lab) in
      let k = candidates_complete P E u g.0 g.1 in
      elim (cases_label (chosen_label P E u)) [
        | inl none ↦ absurd (chosen_nothing (is_lone_number P) (candidates P E u) (label E u) none k.0 (in_contains (candidates P E u) k.0 k.1))
        | inr some ↦
            let c = some.0 in
            let best = chosen_best P E u some.0 some.1 in
            let cand = chosen_candidate P good E u some.0 some.1 in
            let as_good = better_none E fine u some.0 h cand in
            let same : as_good.route ≡ s = (let l = as_good.labelled in cc) in
            let above : compare_keys (key_of P some.0) (key_of P s) ≢ Less =
            subst (λ (r : Route). compare_keys (key_of P some.0) (key_of P r) ≢ Less) same as_good.as_good in
            let first : compare_keys (key_of P k.0.route) (key_of P some.0) ≢ Less =
            not_less (compare_keys (key_of P k.0.route) (key_of P some.0)) (best.unbeaten k.0 (in_contains (candidates P E u) k.0 k.1)) in
            let key : key_of P k.0.route ≡ key_of P s = ap (key_of P) k.2 ∙ g.2 in
            let below : compare_keys (key_of P s) (key_of P some.0) ≢ Less = subst (λ q. compare_keys q (key_of P some.0) ≢ Less) key first in
            (some.0, some.1, cand, neither_better (key_of P some.0) (key_of P s) above below)
      ]

  -- a router without a label in the solution keeps none
  none_given : (E : List (Option Route)) → IsGood P P (λ u v. u ≡ v × (u < count P)) E L → (u : ℕ) → u < count P → label L u ≡ None → chosen_label P E u ≡ None
  none_given E fine u h empty = elim (cases_label (chosen_label P E u)) [
    | inl none ↦ none
    | inr some ↦ (let a = better_none E fine u some.0 h (chosen_candidate P good E u some.0 some.1) in let l = a.labelled in absurd (cc))
  ]

  module _ (u : ℕ) (rest : List ℕ) (E : List (Option Route)) (inside : u < count P) (sorted : Sorted L (u ∷ rest)) (now : IsReached (u ∷ rest) E) where
    bare : label E u ≡ None
    bare = now.empty u (inl refl)

    apart : (v : ℕ) → In rest v → v ≢ u
    apart v i e = not_first (label L u) u (subst (StandsBefore L u) e (sorted.0 v i))

    still_empty : (v : ℕ) → In rest v → label (activated P E u) v ≡ None
    still_empty v i = activated_other P E u v (apart v i) ∙ now.empty v (inr i)

    out : (v : ℕ) → v ≢ u → ¬ In rest v → ¬ In (u ∷ rest) v
    out v differ lacking (inl same) = differ (sym same)
    out v differ lacking (inr i) = lacking i

    before : (s : Route) → label L u ≡ Some s → IsFilled (λ u v. u ≡ v × (u < count P)) E L (size_of s)
    before s lab = record {
      filled = λ b a s' x e less.
          (let e' : label L b ≡ Some s' = subst (λ v. label L v ≡ Some s') (sym x.0) e in
          now.filled b s' x.1 e' (not_left b s s' lab e' less));
    }
      where
        not_left : (b : ℕ) (s s' : Route) → label L u ≡ Some s → label L b ≡ Some s' → size_of s' < size_of s → ¬ In (u ∷ rest) b
        not_left b s s' lab e less (inl same) =
            let e' : label L u ≡ Some s' = subst (λ v. label L v ≡ Some s') (sym same) e in
            let one : s ≡ s' = cc in let size = ap size_of one in omega arith
        not_left b s s' lab e less (inr i) = no_larger (label L u) (label L b) u b s s' (sorted.0 b i) lab e less

    next : IsReached rest (activated P E u)
    next = elim (cases_label (label L u)) [
      | inl none ↦
          let stays : activated P E u ≡ E = kept_same P E u (none_given E now.fine u inside none ∙ sym bare) in
          record {
            fine = subst (λ (l : List (Option Route)). IsGood P P (λ u v. u ≡ v × (u < count P)) l L) (sym stays) now.fine;
            empty = still_empty;
            filled = λ v s h e lacking. elim (cases_eq v u) [
              | inl same ↦ (let e' : label L u ≡ Some s = subst (λ w. label L w ≡ Some s) same e in absurd (cc))
              | inr differ ↦ (let f = now.filled v s h e (out v differ lacking) in (f.0, activated_other P E u v differ ∙ f.1))
            ];
          }
      | inr some ↦
          let t = takes E now.fine u some.0 inside some.1 bare (before some.0 some.1) in
          let is : activated P E u ≡ set E u (Some t.0) = ap (set E u) t.1 in
          let total = now.fine.supported.fitting.total in
          record {
            fine = subst (λ (l : List (Option Route)). IsGood P P (λ u v. u ≡ v × (u < count P)) l L) (sym is)
                (set_good P P (λ u v. u ≡ v × (u < count P)) itself good good L st even E now.fine u u t.0 some.0 (refl, inside) some.1 bare t.2 t.3);
            empty = still_empty;
            filled = λ v s h e lacking. elim (cases_eq v u) [
              | inl same ↦ (t.0, ap (label (activated P E u)) same ∙ activated_here P E u (omega (arith, inside, total)) ∙ t.1)
              | inr differ ↦ (let f = now.filled v s h e (out v differ lacking) in (f.0, activated_other P E u v differ ∙ f.1))
            ];
          }
    ]

  along : (run : List ℕ) (E : List (Option Route)) → ((v : ℕ) → In run v → v < count P) → Sorted L run → IsReached run E → IsReached [] (labels_after P E run)
  along [] E inside sorted now = now
  along (u ∷ run) E inside sorted now = along run (activated P E u) (λ v i. inside v (inr i)) sorted.1 (next u run E (inside u (inl refl)) sorted now)

  pub order_reaches : (run : List ℕ) → IsOrderOf P L run → IsSolutionLike P L (labels_after P (no_labels P) run)
  order_reaches run order =
      let end = along run (no_labels P) (λ v i. all_in (λ u. u < count P) run v order.only i) (sorted_pairs L run order.sorted) (start run order) in
      let E = labels_after P (no_labels P) run in
      let full : (b a : ℕ) (s : Route) → b ≡ a × (b < count P) → label L a ≡ Some s → (r : Route) × (label (labels_after P (no_labels P) run) b ≡ Some r) =
      λ b a s x e. end.filled b s x.1 (subst (λ v. label L v ≡ Some s) (sym x.0) e) (λ i. i) in
      record {
        stable = good_stable P P (λ u v. u ≡ v × (u < count P)) itself good good L st even E end.fine full;
        keys = λ u h. elim (cases_label (label L u)) [
          | inl none ↦ elim (cases_label (label (labels_after P (no_labels P) run) u)) [
            | inl empty ↦ both_none empty none
            | inr some ↦ (let t = end.fine.tied.held u u some.0 (refl, h) some.1 in let l = t.labelled in absurd (cc))
          ]
          | inr given ↦
              let f = end.filled u given.0 h given.1 (λ i. i) in
              let t = end.fine.tied.held u u f.0 (refl, h) f.1 in
              let same : t.route ≡ given.0 = (let l = t.labelled in let g = given.1 in cc) in
              both_some f.0 given.0 f.1 given.1 (sym t.keyed ∙ ap (key_of P) same)
        ];
      }
