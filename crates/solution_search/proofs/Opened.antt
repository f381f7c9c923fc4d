-- Which routers are open in the case of a board.
use Rattle.std.proofs.Common.{◌≡◌, ℕ, ◌<◌, ◌≤◌, Bool, true, false, cond, Option, Some, None, refl, sym, ap, ◌∙◌, subst, inl, inr, arith}
use Rattle.std.specs.Prelude.{◌&&◌, is_some, is_none}
use Rattle.std.proofs.lemmas.Bool.{cases_lt, lt-ltb, ltb-true}
use Rattle.srp_core.specs.declared.route.Route.{Route}
use Rattle.srp_core.specs.Routes.{preference_of, size_of, Key}
use Rattle.srp_core.specs.Problem.{Problem, count, key_of, IsProblem}
use Rattle.srp_core.specs.Stability.{label, IsCandidate}
use Rattle.srp_core.proofs.KeyOrder.{neither_better}
use Rattle.solution_search.specs.declared.bests.Best.{Best}
use Rattle.solution_search.specs.Bests.{IsBestOf, KnowsBest}
use Rattle.solution_search.specs.Boards.{State, best_at, case_of, IsState}
use Rattle.solution_search.specs.Cases.{waits_above, IsOffer, IsBestOffer, IsAbove, IsOpen, IsNext, IsAtEnd}
use Rattle.solution_search.specs.Looks.{is_above, open_size_by, open_size, IsLeast, IsClosed, is_offered, HasOffered, HasNoneOffered}
use Rattle.solution_search.proofs.Carried.{candidate_in}
use Rattle.solution_search.proofs.WeakOrder.{IsNoWorse, higher, not_longer, no_worse}

above_is : (o : Option ℕ) (p : ℕ) → is_above o p ≡ true → IsAbove o p
above_is None p t = tt
above_is (Some awaited) p t = ltb-true awaited p t

pub is_above_of : (o : Option ℕ) (p : ℕ) → IsAbove o p → is_above o p ≡ true
is_above_of None p a = refl
is_above_of (Some awaited) p a = lt-ltb awaited p a

-- what is known of a router that is open
record Parts (label : Option Route) (awaited : Option ℕ) (known : Option Best) (size : ℕ) : Type 0 where
  unsettled : label ≡ None
  best : Best
  is_known : known ≡ Some best
  above : IsAbove awaited (preference_of best.route)
  sized : size_of best.route ≡ size

parts_by : (label : Option Route) (awaited : Option ℕ) (known : Option Best) (size : ℕ) → open_size_by label awaited known ≡ Some size →
    Parts label awaited known size
parts_by (Some r) awaited known size e = absurd (cc)
parts_by None awaited None size e = absurd (cc)
parts_by None awaited (Some best) size e = by (is_above awaited (preference_of best.route)) refl e
  where
    by : (b : Bool) → is_above awaited (preference_of best.route) ≡ b → cond b (Some (size_of best.route)) None ≡ Some size →
        Parts None awaited (Some best) size
    by false t f = absurd (cc)
    by true t f = record {
      unsettled = refl;
      best = best;
      is_known = refl;
      above = above_is awaited (preference_of best.route) t;
      sized = (let s : size_of best.route ≡ size = cc in s);
    }

open_by : (label : Option Route) (awaited : Option ℕ) (known : Option Best) (best : Best) → label ≡ None → known ≡ Some best →
    IsAbove awaited (preference_of best.route) →
    open_size_by label awaited known ≡ Some (size_of best.route)
open_by label awaited known best e k a =
    ap (λ (o : Option Route). open_size_by o awaited known) e ∙ ap (open_size_by None awaited) k
    ∙ ap (λ (b : Bool). cond b (Some (size_of best.route)) None) (is_above_of awaited (preference_of best.route) a)

-- a best offer that does not open its router: the router waits for a preference above that
closed_by : (awaited : Option ℕ) (best : Best) → is_some (open_size_by None awaited (Some best)) ≡ false →
    (p : ℕ) × (awaited ≡ Some p) × (preference_of best.route ≤ p)
closed_by None best f = absurd (cc)
closed_by (Some a) best f = elim (cases_lt a (preference_of best.route)) [
  | inr le ↦ (a, refl, le)
  | inl less ↦
      let t = lt-ltb a (preference_of best.route) less in
      let o : open_size_by None (Some a) (Some best) ≡ Some (size_of best.route) = ap (λ (b : Bool). cond b (Some (size_of best.route)) None) t in
      let s : is_some (open_size_by None (Some a) (Some best)) ≡ true = ap (λ (x : Option ℕ). is_some x) o in
      absurd (cc)
]

is_some_of : (o : Option ℕ) → is_some o ≡ true → (n : ℕ) × (o ≡ Some n)
is_some_of None e = absurd (cc)
is_some_of (Some n) e = (n, refl)

-- the next router and its best offer
pub record Next (P : Problem) (state : State) (u : ℕ) : Type 0 where
  pub best : Best
  pub is_known : best_at state.bests u ≡ Some best
  pub unsettled : label state.labels u ≡ None
  pub inside : u < count P
  pub next : IsNext P (case_of state) u best.route

module _ (P : Problem) (good : IsProblem P) (tied : Bool) (state : State) (known : IsState P tied state) where
  -- a router without a label, and an offer
  offer_known : (u : ℕ) (c : Route) → IsOffer P (case_of state) u c →
      (best : Best) × (best_at state.bests u ≡ Some best) × IsBestOf P (IsCandidate P state.labels u) best
  offer_known u c offer = by (best_at state.bests u) refl
    where
      k : KnowsBest P (IsCandidate P state.labels u) (best_at state.bests u)
      k = known.knows.unsettled u (candidate_in P good state.labels u c offer.candidate) offer.unsettled

      by : (o : Option Best) → best_at state.bests u ≡ o → (best : Best) × (best_at state.bests u ≡ Some best) × IsBestOf P (IsCandidate P state.labels u) best
      by None e = absurd (k.none e c offer.candidate)
      by (Some best) e = (best, e, k.some best e)

  best_offer : (u : ℕ) (best : Best) → label state.labels u ≡ None → IsBestOf P (IsCandidate P state.labels u) best → IsBestOffer P (case_of state) u best.route
  best_offer u best empty q = record {
    offer = record { unsettled = empty; candidate = q.held };
    best = λ other offer. q.unbeaten other offer.candidate;
  }

  -- an open router is found open, with the size of any best offer
  open_found : (u : ℕ) (c : Route) → IsOpen P (case_of state) u c → open_size state u ≡ Some (size_of c)
  unfolding open_size
  open_found u c opened =
      let k = offer_known u c opened.best.offer in
      let q = k.2 in
      let same : key_of P c ≡ key_of P k.0.route = neither_better (key_of P c) (key_of P k.0.route) (q.unbeaten c opened.best.offer.candidate)
      (opened.best.best k.0.route (record { unsettled = opened.best.offer.unsettled; candidate = q.held })) in
      let preference = ap (λ (x : Key). x.preference) same in
      let size = ap (λ (x : Key). x.size) same in
      open_by (label state.labels u) (waits_above (case_of state) u) (best_at state.bests u) k.0 opened.best.offer.unsettled k.1
      (subst (IsAbove (waits_above (case_of state) u)) preference opened.above)
      ∙ ap Some (sym size)

  pub is_next : (u : ℕ) → IsLeast state (count P) u → Next P state u
  unfolding open_size
  is_next u least =
      let parts = parts_by (label state.labels u) (waits_above (case_of state) u) (best_at state.bests u) least.size least.turn.sized in
      let k = known.knows.unsettled u least.turn.inside parts.unsettled in
      let q = k.some parts.best parts.is_known in
      record {
        best = parts.best;
        is_known = parts.is_known;
        unsettled = parts.unsettled;
        inside = least.turn.inside;
        next = record {
          is_open = record { best = best_offer u parts.best parts.unsettled q; above = parts.above };
          smallest = λ other c opened.
              (let found = open_found other c opened in
              let smaller = least.least other (size_of c) (candidate_in P good state.labels other c opened.best.offer.candidate) found in
              let sized = parts.sized in
              omega (arith, smaller, sized));
        };
      }

  pub is_at_end : IsClosed state (count P) → IsAtEnd P (case_of state)
  is_at_end closed = record {
    closed = λ u c opened.
        (let found = open_found u c opened in
        let none = closed.closed u (candidate_in P good state.labels u c opened.best.offer.candidate) in
        let both : None ≡ Some (size_of c) = sym none ∙ found in absurd (cc));
  }

  -- ---- a router without a label that has an offer

  -- its best offer
  pub best_known : (u : ℕ) → is_offered state u ≡ true → (label state.labels u ≡ None) × ((best : Best) × (best_at state.bests u ≡ Some best))
  best_known u t = by (label state.labels u) (best_at state.bests u) refl refl t
    where
      by : (l : Option Route) (o : Option Best) → label state.labels u ≡ l → best_at state.bests u ≡ o → (is_none l && is_some o) ≡ true →
          (label state.labels u ≡ None) × ((best : Best) × (best_at state.bests u ≡ Some best))
      by (Some r) o e f t = absurd (cc)
      by None None e f t = absurd (cc)
      by None (Some best) e f t = (e, (best, f))

  module _ (u : ℕ) (inside : u < count P) (none : label state.labels u ≡ None) (best : Best) (is_known : best_at state.bests u ≡ Some best) where
    own : IsBestOf P (IsCandidate P state.labels u) best
    own = (known.knows.unsettled u inside none).some best is_known

    same_size : open_size state u ≡ open_size_by None (waits_above (case_of state) u) (Some best)
    unfolding open_size
    same_size = ap (λ (o : Option Route). open_size_by o (waits_above (case_of state) u) (best_at state.bests u)) none
        ∙ ap (open_size_by None (waits_above (case_of state) u)) is_known

    pub found_open : is_some (open_size state u) ≡ true → IsOpen P (case_of state) u best.route
    found_open t =
        let some = is_some_of (open_size state u) t in
        let parts = parts_by None (waits_above (case_of state) u) (Some best) some.0 (sym same_size ∙ some.1) in
        let same : parts.best ≡ best = (let k = parts.is_known in cc) in
        record {
          best = best_offer u best none own;
          above = subst (λ (b : Best). IsAbove (waits_above (case_of state) u) (preference_of b.route)) same parts.above;
        }

    -- it is not open: it waits, and no offer has a higher preference
    pub found_waiting : is_some (open_size state u) ≡ false →
        (p : ℕ) × (waits_above (case_of state) u ≡ Some p) × ((c : Route) → IsOffer P (case_of state) u c → preference_of c ≤ p)
    found_waiting f =
        let w = closed_by (waits_above (case_of state) u) best (ap (λ (o : Option ℕ). is_some o) (sym same_size) ∙ f) in
        (w.0, w.1, λ c offer. low w.0 w.2 c (no_worse (key_of P best.route) (key_of P c) (own.unbeaten c offer.candidate)))
      where
        low : (p : ℕ) → preference_of best.route ≤ p → (c : Route) → IsNoWorse (key_of P best.route) (key_of P c) → preference_of c ≤ p
        low p le c (higher h) = omega (arith, le, h)
        low p le c (not_longer q l) = omega (arith, le, q)

  -- a router that has an offer
  pub offered : HasOffered state (count P) → (u : ℕ) × ((c : Route) × IsOffer P (case_of state) u c)
  offered has = by (label state.labels has.router) (best_at state.bests has.router) refl refl has.offered
    where
      by : (l : Option Route) (o : Option Best) → label state.labels has.router ≡ l → best_at state.bests has.router ≡ o → (is_none l && is_some o) ≡ true →
          (u : ℕ) × ((c : Route) × IsOffer P (case_of state) u c)
      by (Some r) o e f t = absurd (cc)
      by None None e f t = absurd (cc)
      by None (Some best) e f t = (
        has.router,
        (best.route, record { unsettled = e; candidate = ((known.knows.unsettled has.router has.inside e).some best f).held }),
      )

  pub none_offered : HasNoneOffered state (count P) → (u : ℕ) (c : Route) → ¬ IsOffer P (case_of state) u c
  none_offered none u c offer =
      let k = offer_known u c offer in
      let f = none.none u (candidate_in P good state.labels u c offer.candidate) in
      let g : is_offered state u ≡ true = ap (λ (l : Option Route). is_none l && is_some (best_at state.bests u)) offer.unsettled
      ∙ ap (λ (o : Option Best). is_some o) k.1 in
      absurd (cc)
