-- Labels have an order: each router is put behind all that stand before it.
use Rattle.std.proofs.Common.{◌≡◌, ◌≢◌, ◌⊎◌, ℕ, zero, suc, ◌<◌, List, [], ◌∷◌, Option, Some, None, refl, sym, subst, arith, inl, inr}
use Rattle.std.proofs.lemmas.Bool.{cases_lt}
use Rattle.base_kit.proofs.Elements.{In, contains_in}
use Rattle.by_key.proofs.OrderedByKey.{IsOrdered}
use Rattle.srp_core.specs.declared.route.Route.{Route}
use Rattle.srp_core.specs.Routes.{size_of}
use Rattle.srp_core.specs.Problem.{Problem, count}
use Rattle.srp_core.specs.Stability.{label}
use Rattle.route_run.specs.Orders.{StandsFirst, StandsBefore, IsOrderOf}
use Rattle.route_run.proofs.RankOrder.{ordered_pairs}
use Rattle.route_run.proofs.Runs.{all_from}

by_number : (u v : ℕ) → u ≢ v → (u < v) ⊎ (v < u)
by_number u v differ = elim (cases_lt u v) [
  | inl less ↦ inl less
  | inr le ↦ elim (cases_lt v u) [ inl less ↦ inr less | inr ge ↦ absurd (differ (omega arith)) ]
]

one_first : (o p : Option Route) (u v : ℕ) → u ≢ v → StandsFirst o p u v ⊎ StandsFirst p o v u
one_first None None u v differ = by_number u v differ
one_first None (Some s) u v differ = inr tt
one_first (Some r) None u v differ = inl tt
one_first (Some r) (Some s) u v differ = elim (cases_lt (size_of r) (size_of s)) [
  | inl less ↦ inl (inl less)
  | inr le ↦ elim (cases_lt (size_of s) (size_of r)) [
    | inl less ↦ inr (inl less)
    | inr ge ↦
        let there : size_of r ≡ size_of s = omega arith in
        elim (by_number u v differ) [ inl less ↦ inl (inr (there, less)) | inr less ↦ inr (inr (sym there, less)) ]
  ]
]

chained : (o p q : Option Route) (u v w : ℕ) → StandsFirst o p u v → StandsFirst p q v w → StandsFirst o q u w
chained None None None u v w a b = omega arith
chained None None (Some t) u v w a b = absurd b
chained None (Some s) q u v w a b = absurd a
chained (Some r) None None u v w a b = tt
chained (Some r) None (Some t) u v w a b = absurd b
chained (Some r) (Some s) None u v w a b = tt
chained (Some r) (Some s) (Some t) u v w (inl a) (inl b) = inl (omega arith)
chained (Some r) (Some s) (Some t) u v w (inl a) (inr b) = let e = b.0 in inl (omega arith)
chained (Some r) (Some s) (Some t) u v w (inr a) (inl b) = let e = a.0 in inl (omega arith)
chained (Some r) (Some s) (Some t) u v w (inr a) (inr b) = let e = a.0 in let f = b.0 in let g = a.1 in let h = b.1 in inr (omega arith, omega arith)

module _ (L : List (Option Route)) where
  -- the list with one router more
  record HasPut (u : ℕ) (xs : List ℕ) : Type 0 where
    run : List ℕ
    ordered : IsOrdered (StandsBefore L) run
    from : (v : ℕ) → In run v → (v ≡ u) ⊎ In xs v
    own : In run u
    kept : (v : ℕ) → In xs v → In run v

  put : (u : ℕ) (xs : List ℕ) → ¬ In xs u → IsOrdered (StandsBefore L) xs → HasPut u xs
  put u [] new o = record {
    run = u ∷ [];
    ordered = ((λ v i. absurd i), tt);
    from = λ v i. elim i [ inl e ↦ inl (sym e) | inr j ↦ absurd j ];
    own = inl refl;
    kept = λ v i. absurd i;
  }
  put u (x ∷ xs) new o = elim (one_first (label L u) (label L x) u x (λ e. new (inl (sym e)))) [
    | inl first ↦ record {
      run = u ∷ x ∷ xs;
      ordered = ((λ v i. elim i [ inl e ↦ subst (StandsBefore L u) e first | inr j ↦ chained (label L u) (label L x) (label L v) u x v first (o.0 v j) ]), o);
      from = λ v i. elim i [ inl e ↦ inl (sym e) | inr j ↦ inr j ];
      own = inl refl;
      kept = λ v i. inr i;
    }
    | inr later ↦
        let rest = put u xs (λ i. new (inr i)) o.1 in
        record {
          run = x ∷ rest.run;
          ordered = ((λ v i. elim (rest.from v i) [ inl e ↦ subst (StandsBefore L x) (sym e) later | inr j ↦ o.0 v j ]), rest.ordered);
          from = λ v i. elim i [ inl e ↦ inr (inl e) | inr j ↦ elim (rest.from v j) [ inl e ↦ inl e | inr k ↦ inr (inr k) ] ];
          own = inr rest.own;
          kept = λ v i. elim i [ inl e ↦ inl e | inr j ↦ inr (rest.kept v j) ];
        }
  ]

  record OrdersUpto (n : ℕ) : Type 0 where
    run : List ℕ
    ordered : IsOrdered (StandsBefore L) run
    each : (u : ℕ) → u < n → In run u
    only : (u : ℕ) → In run u → u < n

  orders_upto : (n : ℕ) → OrdersUpto n
  orders_upto zero = record { run = []; ordered = tt; each = λ u h. absurd (omega arith); only = λ u i. absurd i }
  orders_upto (suc n) =
      let before = orders_upto n in
      let more = put n before.run (λ i. (let h = before.only n i in omega arith)) before.ordered in
      record {
        run = more.run;
        ordered = more.ordered;
        each = λ u h. elim (cases_lt u n) [
          | inl less ↦ more.kept u (before.each u less)
          | inr le ↦ (let last : n ≡ u = omega arith in subst (In more.run) last more.own)
        ];
        only = λ u i. elim (more.from u i) [ inl last ↦ omega arith | inr j ↦ (let h = before.only u j in omega arith) ];
      }

pub has_order : (L : List (Option Route)) (P : Problem) → (run : List ℕ) × IsOrderOf P L run
has_order L P =
    let o = orders_upto L (count P) in (
      o.run,
      record {
        each = λ u h. contains_in o.run u (o.each u h);
        only = all_from (λ u. u < count P) o.run o.only;
        sorted = ordered_pairs (StandsBefore L) o.run o.ordered;
      },
    )
