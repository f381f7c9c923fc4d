-- Values that are found for one router after the other, by ascending size of their labels.
use Rattle.std.proofs.Common.{◌≡◌, ◌≢◌, ℕ, ◌+◌, ◌<◌, ◌≤◌, List, [], length, get_or, set, Option, Some, None, sym, ap, ◌∙◌, subst, arith, inl, inr}
use Rattle.std.specs.Prelude.{slice_index_or}
use Rattle.std.proofs.lemmas.Bool.{cases_lt, cases_eq}
use Rattle.std.proofs.lemmas.List.{get_or-set_same, get_or-set_other, get_or_default, length-set}
use Rattle.base_kit.proofs.Elements.{In, contains_in}
use Rattle.srp_core.specs.declared.route.Route.{Route}
use Rattle.srp_core.specs.Routes.{size_of}
use Rattle.srp_core.specs.Problem.{Problem, count, IsProblem}
use Rattle.srp_core.specs.Stability.{label, AreLabels}
use Rattle.srp_core.proofs.Offers.{cases_label, label_in}
use Rattle.srp_questions.specs.declared.order.Rank.{Rank}
use Rattle.srp_questions.specs.NextHops.{AreNextHops}
use Rattle.srp_questions.specs.Walks.{rank, rank_size, AreOrderedRanks}
use Rattle.srp_questions.proofs.ChainFacts.{next_smaller}

-- the values of the first so many routers in the order are right, and those of routers without a label
pub record IsFound {X : Type 0} (Right : ℕ → X → Type 0) (P : Problem) (L : List (Option Route)) (ranks : List Rank) (d : X) (k : ℕ)
    (values : List X) : Type 0 where
  pub total : length values ≡ count P
  pub done : (j : ℕ) (e : Rank) → j < k → j < length ranks → Right (slice_index_or ranks j e).router (get_or values (slice_index_or ranks j e).router d)
  pub alone : (u : ℕ) → u < count P → label L u ≡ None → Right u (get_or values u d)

module _ {X : Type 0} (Right : ℕ → X → Type 0) (P : Problem) (good : IsProblem P) (L : List (Option Route)) (fits : AreLabels P L) (ranks : List Rank)
    (ordered : AreOrderedRanks L ranks) (d : X) where
  pub rank_label : (k : ℕ) (e : Rank) → k < length ranks → e ≡ slice_index_or ranks k e → (r : Route) × (label L e.router ≡ Some r) × (e.size ≡ size_of r)
  rank_label k e inside is = ordered.ranks.each e (k, inside, sym is)

  pub rank_inside : (k : ℕ) (e : Rank) → k < length ranks → e ≡ slice_index_or ranks k e → e.router < count P
  rank_inside k e inside is = let l = rank_label k e inside is in let t = label_in L e.router l.0 l.1 in omega (arith, t, fits.total)

  -- the values of those to whom a router forwards are right
  pub next_right : (hops : List (List ℕ)) → AreNextHops P L hops → (k : ℕ) (e : Rank) → k < length ranks → e ≡ slice_index_or ranks k e →
      (values : List X) → IsFound Right P L ranks d k values → (v : ℕ) → In (get_or hops e.router []) v → Right v (get_or values v d)
  next_right hops are k e inside is values found v i =
      let own = rank_label k e inside is in
      let next = are.each e.router (rank_inside k e inside is) in
      let smaller = next_smaller P good L e.router v own.0 own.1 (next.sound v (contains_in (get_or hops e.router []) v i)) in
      let less = smaller.smaller in
      let at = ordered.ranks.all v smaller.route smaller.labelled in
      let there : slice_index_or ranks at.0 (rank v smaller.route) ≡ rank v smaller.route = at.2 in
      let here : slice_index_or ranks k (rank v smaller.route) ≡ e = get_or_default ranks k (rank v smaller.route) e inside ∙ sym is in
      let before : at.0 < k = elim (cases_lt at.0 k) [
        | inl l ↦ l
        | inr le ↦ absurd (
            let up = ordered.rising k at.0 (rank v smaller.route) le at.1 in
            let a : rank_size (slice_index_or ranks k (rank v smaller.route)) ≡ size_of own.0 = ap rank_size here ∙ own.2 in
            let b : rank_size (slice_index_or ranks at.0 (rank v smaller.route)) ≡ size_of smaller.route = ap rank_size there in
            omega (arith, up, a, b, less))
      ] in
      let router : (slice_index_or ranks at.0 (rank v smaller.route)).router ≡ v = ap (λ (x : Rank). x.router) there in
      subst (λ w. Right w (get_or values w d)) router (found.done at.0 (rank v smaller.route) before at.1)

  -- one router more
  pub found_more : (k : ℕ) (e : Rank) (new : X) (values : List X) → k < length ranks → e ≡ slice_index_or ranks k e → IsFound Right P L ranks d k values →
      Right e.router new → IsFound Right P L ranks d (k + 1) (set values e.router new)
  found_more k e new values inside is found right =
      let own = rank_label k e inside is in
      let in_values : e.router < length values = (let i = rank_inside k e inside is in let t = found.total in omega (arith, i, t)) in
      let here : (w : ℕ) → e.router ≡ w → Right w (get_or (set values e.router new) w d) = λ w same.
      subst (λ x. Right x (get_or (set values e.router new) x d)) same (subst (Right e.router) (sym (get_or-set_same values e.router new d in_values)) right) in
      let other : (w : ℕ) → e.router ≢ w → Right w (get_or values w d) → Right w (get_or (set values e.router new) w d) = λ w differ old.
      subst (Right w) (sym (get_or-set_other values e.router w new d (λ same. differ (sym same)))) old in
      record {
        total = length-set values e.router new ∙ found.total;
        done = λ j x less among. elim (cases_eq e.router (slice_index_or ranks j x).router) [
          | inl same ↦ here (slice_index_or ranks j x).router same
          | inr differ ↦ elim (cases_lt j k) [
            | inl before ↦ other (slice_index_or ranks j x).router differ (found.done j x before among)
            | inr le ↦ absurd (
                let last : k ≡ j = omega arith in
                let at : e ≡ slice_index_or ranks j x = is ∙ get_or_default ranks k e x inside ∙ ap (λ (n : ℕ). slice_index_or ranks n x) last in
                differ (ap (λ (y : Rank). y.router) at))
          ]
        ];
        alone = λ u among none. elim (cases_eq e.router u) [
          | inl same ↦ absurd (let l = own.1 in let m : label L e.router ≡ None = ap (label L) same ∙ none in cc)
          | inr differ ↦ other u differ (found.alone u among none)
        ];
      }

  -- all routers
  pub all_found : (k : ℕ) (values : List X) → length ranks ≤ k → IsFound Right P L ranks d k values → (u : ℕ) → u < count P → Right u (get_or values u d)
  all_found k values over found u among = elim (cases_label (label L u)) [
    | inl none ↦ found.alone u among none
    | inr full ↦
        let at = ordered.ranks.all u full.0 full.1 in
        let inside = at.1 in
        let router : (slice_index_or ranks at.0 (rank u full.0)).router ≡ u = ap (λ (x : Rank). x.router) at.2 in
        subst (λ w. Right w (get_or values w d)) router (found.done at.0 (rank u full.0) (omega arith) at.1)
  ]

  -- no router yet
  pub found_start : (values : List X) → length values ≡ count P → ((u : ℕ) → u < count P → label L u ≡ None → Right u (get_or values u d)) →
      IsFound Right P L ranks d 0 values
  found_start values total alone = record { total = total; done = λ j e less. absurd (omega arith); alone = alone }
