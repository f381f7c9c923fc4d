-- If no router is lone, a round settles the labels of one size more.
use Rattle.std.proofs.Common.{◌≡◌, ◌≢◌, ◌⊎◌, ℕ, zero, suc, ◌+◌, ◌<◌, ◌≤◌, false, List, [], ◌∷◌, Option, Some, refl, sym, ap, ◌∙◌, subst, arith, inl, inr}
use Rattle.std.specs.Prelude.{Contains}
use Rattle.std.specs.declared.cmp.Ordering.TheVariants.{Less}
use Rattle.std.proofs.lemmas.Bool.{cases_eq, cases_lt}
use Rattle.base_kit.proofs.Elements.{In, in_contains, in_left, in_right}
use Rattle.base_kit.specs.declared.act_graph.Edge.{Edge}
use Rattle.srp_core.specs.declared.route.Route.{Route}
use Rattle.srp_core.specs.Routes.{size_of, path_of, is_on, compare_keys}
use Rattle.srp_core.specs.Problem.{Problem, count, number, initial, step_over, key_of, is_lone_number, IsProblem}
use Rattle.srp_core.specs.Stability.{label, AreLabels, IsCandidate, of_init, of_edge, IsStable}
use Rattle.srp_core.specs.Candidates.{candidates}
use Rattle.srp_core.proofs.CandidateLists.{candidates_sound, candidates_complete}
use Rattle.srp_core.proofs.KeyOrder.{shorter, not_better, not_longer}
use Rattle.srp_core.proofs.Offers.{cases_label, Offer, candidate_offer, one_preference, grows}
use Rattle.route_run.specs.Activations.{chosen_label, activated, labels_after}
use Rattle.route_run.specs.Rounds.{HasRounds, HasNoLone}
use Rattle.route_run.proofs.Routes.{not_less}
use Rattle.route_run.proofs.BestChoices.{chosen_nothing}
use Rattle.route_run.proofs.AtRest.{chosen_best, chosen_candidate, settled_keeps, activated_here, activated_other, kept_same, at_activated, activated_labels}
use Rattle.route_run.proofs.Runs.{after_append}

-- a candidate that stands on labels below the size alone
pub data Early (P : Problem) (E : List (Option Route)) (s u : ℕ) (c : Route) : Type 0 where
  early_init : initial P u ≡ Some c → Early P E s u c
  early_edge : (e : Edge) → Contains P.edges e → e.importer ≡ u → (from : Route) → label E e.exporter ≡ Some from → size_of from < s →
      step_over P e from ≡ Some c → is_on (number P e.importer) (path_of c) ≡ false → Early P E s u c

pub early_candidate : (P : Problem) (E : List (Option Route)) (s u : ℕ) (c : Route) → Early P E s u c → IsCandidate P E u c
early_candidate P E s u c (early_init e) = of_init e
early_candidate P E s u c (early_edge e i imp from lab small step passes) =
    of_edge e i imp (record { from = from; labelled = lab; stepped = step; passes = passes })

pub record IsBest (P : Problem) (E : List (Option Route)) (s u : ℕ) (r : Route) : Type 0 where
  pub early : Early P E s u r
  pub best : (c : Route) → Early P E s u c → compare_keys (key_of P c) (key_of P r) ≢ Less

-- labels below the size are the best that stand on such labels, and no other router has a candidate that
-- stands on such labels and is below the size
pub record IsSettledBelow (P : Problem) (E : List (Option Route)) (s : ℕ) : Type 0 where
  pub best : (u : ℕ) (r : Route) → u < count P → label E u ≡ Some r → size_of r < s → IsBest P E s u r
  pub late : (u : ℕ) (c : Route) → u < count P → ((r : Route) → label E u ≡ Some r → s ≤ size_of r) → Early P E s u c → s ≤ size_of c

-- the same of one size more, at one router
record IsDoneAt (P : Problem) (E : List (Option Route)) (s u : ℕ) : Type 0 where
  best : (r : Route) → label E u ≡ Some r → size_of r < s + 1 → IsBest P E s u r
  late : (c : Route) → ((r : Route) → label E u ≡ Some r → s + 1 ≤ size_of r) → Early P E s u c → s + 1 ≤ size_of c

-- the labels below the size are the same
record SameBelow (E E' : List (Option Route)) (s : ℕ) : Type 0 where
  forth : (u : ℕ) (r : Route) → label E u ≡ Some r → size_of r < s → label E' u ≡ Some r
  back : (u : ℕ) (r : Route) → label E' u ≡ Some r → size_of r < s → label E u ≡ Some r

turned : (E E' : List (Option Route)) (s : ℕ) → SameBelow E E' s → SameBelow E' E s
turned E E' s same = record { forth = same.back; back = same.forth }

early_same : (P : Problem) (E E' : List (Option Route)) (s u : ℕ) (c : Route) → SameBelow E E' s → Early P E s u c → Early P E' s u c
early_same P E E' s u c same (early_init e) = early_init e
early_same P E E' s u c same (early_edge e i imp from lab small step passes) = early_edge e i imp from (same.forth e.exporter from lab small) small step passes

best_same : (P : Problem) (E E' : List (Option Route)) (s u : ℕ) (r : Route) → SameBelow E E' s → IsBest P E s u r → IsBest P E' s u r
best_same P E E' s u r same b = record { early = early_same P E E' s u r same b.early; best = λ c x. b.best c (early_same P E' E s u c (turned E E' s same) x) }

settled_same : (P : Problem) (E E' : List (Option Route)) (s : ℕ) → SameBelow E E' s → IsSettledBelow P E s → IsSettledBelow P E' s
settled_same P E E' s same settled = record {
  best = λ u r h e small. best_same P E E' s u r same (settled.best u r h (same.back u r e small) small);
  late = λ u c h prem x. settled.late u c h (λ r e. elim (cases_lt (size_of r) s) [ inl small ↦ prem r (same.forth u r e small) | inr large ↦ large ])
      (early_same P E' E s u c (turned E E' s same) x);
}

done_same : (P : Problem) (E E' : List (Option Route)) (s u : ℕ) → SameBelow E E' s → label E' u ≡ label E u → IsDoneAt P E s u → IsDoneAt P E' s u
done_same P E E' s u same own d = record {
  best = λ r e small. best_same P E E' s u r same (d.best r (sym own ∙ e) small);
  late = λ c prem x. d.late c (λ r e. prem r (own ∙ e)) (early_same P E' E s u c (turned E E' s same) x);
}

-- no label is below size 0
pub settled_below_0 : (P : Problem) (E : List (Option Route)) → IsSettledBelow P E 0
settled_below_0 P E = record { best = λ u r h e small. absurd (omega arith); late = λ u c h prem x. omega arith }

-- a label that is a candidate of best key is kept
pub best_keeps : (P : Problem) (E : List (Option Route)) (u : ℕ) (r : Route) → label E u ≡ Some r → IsCandidate P E u r →
    ((c : Route) → IsCandidate P E u c → compare_keys (key_of P c) (key_of P r) ≢ Less) → chosen_label P E u ≡ label E u
best_keeps P E u r lab held best = settled_keeps P E u (record {
  none = λ e. absurd (cc);
  held = λ r' e. (let same : r ≡ r' = cc in candidates_complete P E u r' (subst (IsCandidate P E u) same held));
  best = λ r' k e i. (let same : r ≡ r' = cc in
      subst (λ (x : Route). compare_keys (key_of P k.route) (key_of P x) ≢ Less) same (best k.route (candidates_sound P E u k i)));
})

-- what is chosen is as good as each candidate
pub chosen_over : (P : Problem) (E : List (Option Route)) (u : ℕ) (r c : Route) → chosen_label P E u ≡ Some r → IsCandidate P E u c →
    compare_keys (key_of P c) (key_of P r) ≢ Less
chosen_over P E u r c e cand =
    let k = candidates_complete P E u c cand in
    subst (λ (x : Route). compare_keys (key_of P x) (key_of P r) ≢ Less) k.2
    (not_less (compare_keys (key_of P k.0.route) (key_of P r)) ((chosen_best P E u r e).unbeaten k.0 (in_contains (candidates P E u) k.0 k.1)))

-- where there is a candidate, some label is chosen
pub chosen_there : (P : Problem) (E : List (Option Route)) (u : ℕ) (c : Route) → IsCandidate P E u c → (r : Route) × (chosen_label P E u ≡ Some r)
chosen_there P E u c cand = elim (cases_label (chosen_label P E u)) [
  | inl none ↦ (let k = candidates_complete P E u c cand in
      absurd (chosen_nothing (is_lone_number P) (candidates P E u) (label E u) none k.0 (in_contains (candidates P E u) k.0 k.1)))
  | inr some ↦ some
]

module _ (P : Problem) (good : IsProblem P) (none_lone : HasNoLone P) where
  -- of two offers the shorter is the better
  longer_worse : (u : ℕ) (c d : Route) → u < count P → Offer P u c → Offer P u d → size_of c < size_of d → compare_keys (key_of P d) (key_of P c) ≢ Less
  longer_worse u c d h oc od less = not_better (key_of P c) (key_of P d)
      (shorter (key_of P c) (key_of P d) (one_preference P good u c d h (none_lone u h) oc od) less)

  pub as_long : (u : ℕ) (c d : Route) → u < count P → Offer P u c → Offer P u d → compare_keys (key_of P d) (key_of P c) ≢ Less → size_of c ≤ size_of d
  as_long u c d h oc od lacking = not_longer (key_of P c) (key_of P d) (one_preference P good u c d h (none_lone u h) oc od) lacking

  module _ (s : ℕ) where
    early_or_long : (E : List (Option Route)) (u : ℕ) (c : Route) → IsCandidate P E u c → Early P E s u c ⊎ (s + 1 ≤ size_of c)
    early_or_long E u c (of_init e) = inl (early_init e)
    early_or_long E u c (of_edge e i imp over) = elim (cases_lt (size_of over.from) s) [
      | inl small ↦ inl (early_edge e i imp over.from over.labelled small over.stepped over.passes)
      | inr large ↦ (let g = grows P good e over.from c i over.stepped in inr (omega arith))
    ]

    record Steps (E : List (Option Route)) (v : ℕ) : Type 0 where
      same : SameBelow E (activated P E v) s
      done : IsDoneAt P (activated P E v) s v

    module _ (E : List (Option Route)) (fits : AreLabels P E) (settled : IsSettledBelow P E s) (v : ℕ) (h : v < count P) where
      own_offer : (c : Route) → IsCandidate P E v c → Offer P v c
      own_offer c cand = candidate_offer P good E v c fits cand

      -- an early label stays
      stays : (r : Route) → label E v ≡ Some r → size_of r < s → activated P E v ≡ E
      stays r lab small =
          let b = settled.best v r h lab small in
          let held = early_candidate P E s v r b.early in
          kept_same P E v (best_keeps P E v r lab held (λ c cand. elim (early_or_long E v c cand) [
            | inl early ↦ b.best c early
            | inr long ↦ longer_worse v r c h (own_offer r held) (own_offer c cand) (omega arith)
          ]))

      step_early : (r : Route) → label E v ≡ Some r → size_of r < s → Steps E v
      step_early r lab small =
          let is = stays r lab small in
          let here : IsDoneAt P E s v = record {
            best = λ r' e less. (let one : r ≡ r' = cc in let size = ap size_of one in settled.best v r' h e (omega arith));
            late = λ c prem x. (let l = prem r lab in absurd (omega arith));
          } in
          record {
            same = record {
              forth = λ u q e less. ap (λ (l : List (Option Route)). label l u) is ∙ e;
              back =
                  λ u q e less. sym (ap (λ (l : List (Option Route)). label l u) is) ∙ e;
            };
            done = subst (λ (l : List (Option Route)). IsDoneAt P l s v) (sym is) here;
          }

      module _ (large : (r : Route) → label E v ≡ Some r → s ≤ size_of r) where
        chosen_long : (c : Route) → chosen_label P E v ≡ Some c → s ≤ size_of c
        chosen_long c e = elim (early_or_long E v c (chosen_candidate P good E v c e)) [ inl early ↦ settled.late v c h large early | inr long ↦ omega arith ]

        same_early : SameBelow E (activated P E v) s
        same_early = record {
          forth = λ u r e small. elim (cases_eq u v) [
            | inl one ↦ (let l = large r (subst (λ w. label E w ≡ Some r) one e) in absurd (omega arith))
            | inr differ ↦ activated_other P E v u differ ∙ e
          ];
          back = λ u r e small. elim (at_activated P E v u r e) [
            | inl new ↦ (let l = chosen_long r new.1 in absurd (omega arith))
            | inr old ↦ old
          ];
        }

        here : label (activated P E v) v ≡ chosen_label P E v
        here = let total = fits.total in activated_here P E v (omega arith)

        step_late : Steps E v
        step_late = record {
          same = same_early;
          done = record {
            best = λ r e small.
                (let c : chosen_label P E v ≡ Some r = sym here ∙ e in
                elim (early_or_long E v r (chosen_candidate P good E v r c)) [
                  | inr long ↦ absurd (omega arith)
                  | inl early ↦ best_same P E (activated P E v) s v r same_early
                      (record { early = early; best = λ d x. chosen_over P E v r d c (early_candidate P E s v d x) })
                ]);
            late = λ c prem x.
                (let early : Early P E s v c = early_same P (activated P E v) E s v c (turned E (activated P E v) s same_early) x in
                let cand = early_candidate P E s v c early in
                let some = chosen_there P E v c cand in
                let l = prem some.0 (here ∙ some.1) in
                let le = as_long v some.0 c h (own_offer some.0 (chosen_candidate P good E v some.0 some.1)) (own_offer c cand)
                (chosen_over P E v some.0 c some.1 cand) in
                omega arith);
          };
        }

      -- the router is done, and the labels below the size stay
      step : Steps E v
      step = elim (cases_label (label E v)) [
        | inl none ↦ step_late (λ r e. absurd (cc))
        | inr some ↦ elim (cases_lt (size_of some.0) s) [
          | inl small ↦ step_early some.0 some.1 small
          | inr large ↦ step_late (λ r e. let one : some.0 ≡ r = (let f = some.1 in cc) in let size = ap size_of one in omega arith)
        ]
      ]

    record IsRun (E E' : List (Option Route)) (run : List ℕ) : Type 0 where
      fits : AreLabels P E'
      settled : IsSettledBelow P E' s
      kept : (u : ℕ) → IsDoneAt P E s u → IsDoneAt P E' s u
      done : (u : ℕ) → In run u → IsDoneAt P E' s u

    runs : (run : List ℕ) (E : List (Option Route)) → AreLabels P E → IsSettledBelow P E s → ((u : ℕ) → In run u → u < count P) →
        IsRun E (labels_after P E run) run
    runs [] E fits settled inside = record { fits = fits; settled = settled; kept = λ u d. d; done = λ u i. absurd i }
    runs (v ∷ run) E fits settled inside =
        let t = step E fits settled v (inside v (inl refl)) in
        let rest = runs run (activated P E v) (activated_labels P good E v fits) (settled_same P E (activated P E v) s t.same settled) (λ u i. inside u (inr i))
        in
        record {
          fits = rest.fits;
          settled = rest.settled;
          kept = λ u d. rest.kept u (elim (cases_eq u v) [
            | inl one ↦ subst (λ w. IsDoneAt P (activated P E v) s w) (sym one) t.done
            | inr differ ↦ done_same P E (activated P E v) s u t.same (activated_other P E v u differ) d
          ]);
          done = λ u i. elim i [
            | inl one ↦ rest.kept u (subst (λ w. IsDoneAt P (activated P E v) s w) one t.done)
            | inr later ↦ rest.done u later
          ];
        }

    wider : (E : List (Option Route)) (u : ℕ) (c : Route) → Early P E s u c → Early P E (s + 1) u c
    wider E u c (early_init e) = early_init e
    wider E u c (early_edge e i imp from lab small step passes) = early_edge e i imp from lab (omega arith) step passes

    narrower : (E : List (Option Route)) (u : ℕ) (c : Route) → Early P E (s + 1) u c → Early P E s u c ⊎ (s + 1 ≤ size_of c)
    narrower E u c (early_init e) = inl (early_init e)
    narrower E u c (early_edge e i imp from lab small step passes) = elim (cases_lt (size_of from) s) [
      | inl less ↦ inl (early_edge e i imp from lab less step passes)
      | inr large ↦ (let g = grows P good e from c i step in inr (omega arith))
    ]

    -- where all routers are done, the labels of one size more are settled
    all_done : (E : List (Option Route)) → AreLabels P E → ((u : ℕ) → u < count P → IsDoneAt P E s u) → IsSettledBelow P E (s + 1)
    all_done E fits done = record {
      best = λ u r h e small.
          (let b = (done u h).best r e small in
          record {
            early = wider E u r b.early;
            best = λ c x. elim (narrower E u c x) [
              | inl early ↦ b.best c early
              | inr long ↦ longer_worse u r c h (candidate_offer P good E u r fits (early_candidate P E s u r b.early))
                  (candidate_offer P good E u c fits (early_candidate P E (s + 1) u c x)) (omega arith)
            ];
          });
      late = λ u c h prem x. elim (narrower E u c x) [ inl early ↦ (done u h).late c prem early | inr long ↦ long ];
    }

  -- so many rounds settle so many sizes
  pub rounds_settle : (k s : ℕ) (run : List ℕ) (E : List (Option Route)) → AreLabels P E → IsSettledBelow P E s → ((u : ℕ) → In run u → u < count P) →
      HasRounds P k run → IsSettledBelow P (labels_after P E run) (s + k)
  rounds_settle zero s run E fits settled inside has = let same : s ≡ s + 0 = omega arith in
      subst (IsSettledBelow P (labels_after P E run)) same (runs s run E fits settled inside).settled
  rounds_settle (suc k) s run E fits settled inside has =
      let piece = has.0 in
      let rest = has.1 in
      let split = has.2 in
      let in_piece : (u : ℕ) → In has.0 u → u < count P = λ u i. inside u (subst (λ (l : List ℕ). In l u) (sym split) (in_left has.0 has.1 u i)) in
      let in_rest : (u : ℕ) → In has.1 u → u < count P = λ u i. inside u (subst (λ (l : List ℕ). In l u) (sym split) (in_right has.0 has.1 u i)) in
      let one = runs s has.0 E fits settled in_piece in
      let next = all_done s (labels_after P E has.0) one.fits (λ u h. one.done u (in_contains has.0 u (has.3 u h))) in
      let more = rounds_settle k (s + 1) has.1 (labels_after P E has.0) one.fits next in_rest has.4 in
      let same : s + 1 + k ≡ s + suc k = omega arith in
      subst (IsSettledBelow P (labels_after P E run)) same
      (subst (λ (l : List (Option Route)). IsSettledBelow P l (s + 1 + k)) (sym (ap (labels_after P E) split ∙ after_append P E has.0 has.1)) more)

  -- where all labels and candidates are below the size, labels are stable
  pub settled_stable_below : (E : List (Option Route)) (s : ℕ) → AreLabels P E → IsSettledBelow P E s →
      ((u : ℕ) (r : Route) → label E u ≡ Some r → size_of r < s) → ((u : ℕ) (c : Route) → u < count P → IsCandidate P E u c → size_of c < s) → IsStable P E
  settled_stable_below E s fits settled short all_short = record {
    fitting = fits;
    none = λ u c h e cand. (let l = settled.late u c h (λ r e'. absurd (cc)) (early u c cand) in let less = all_short u c h cand in omega arith);
    held = λ u r h e. early_candidate P E s u r (settled.best u r h e (short u r e)).early;
    best = λ u r c h e cand. (settled.best u r h e (short u r e)).best c (early u c cand);
  }
    where
      early : (u : ℕ) (c : Route) → IsCandidate P E u c → Early P E s u c
      early u c (of_init e) = early_init e
      early u c (of_edge e i imp over) = early_edge e i imp over.from over.labelled (short e.exporter over.from over.labelled) over.stepped over.passes
