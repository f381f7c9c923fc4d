-- What a board knows, once a further offer was added.
use Rattle.std.proofs.Common.{◌≡◌, ◌≢◌, ◌⊎◌, ℕ, ◌<◌, Bool, true, false, List, length, Option, Some, None, refl, sym, ap, ◌∙◌, subst, inl, inr, arith}
use Rattle.std.specs.Prelude.{is_some, if◌then◌else◌}
use Rattle.std.specs.declared.cmp.Ordering.TheVariants.{Less, Equal}
use Rattle.std.proofs.lemmas.List.{length-set, get_or-set_same, get_or-set_other}
use Rattle.std.proofs.lemmas.Bool.{cases_eq}
use Rattle.srp_core.specs.declared.route.Route.{Route}
use Rattle.srp_core.specs.Routes.{compare_keys}
use Rattle.srp_core.specs.Problem.{Problem, count, key_of}
use Rattle.srp_core.specs.Stability.{label, AreLabels, IsCandidate}
use Rattle.srp_core.specs.Weak.{compare_weak}
use Rattle.srp_core.proofs.Offers.{cases_label}
use Rattle.srp_core.proofs.KeyOrder.{irreflexive}
use Rattle.solution_search.specs.declared.bests.Best.{Best}
use Rattle.solution_search.specs.declared.bests.Difference.{Difference}
use Rattle.solution_search.specs.declared.bests.Rank.{Rank}
use Rattle.solution_search.specs.declared.bests.Rank.TheVariants as rank
use Rattle.solution_search.specs.declared.board.Board.{Board}
use Rattle.solution_search.specs.declared.board.Tie.{Tie}
use Rattle.solution_search.specs.declared.settling.Outcome.{Outcome}
use Rattle.solution_search.specs.declared.settling.Outcome.TheVariants.{Fine, Upset}
use Rattle.solution_search.specs.Bests.{fresh_of, told, IsFresh, KnowsBest, HoldsBest}
use Rattle.solution_search.specs.Boards.{state_of, best_at, is_tied, Puts, better_than, rank_at, outcome_of, noted_tie, noted_by, Adds, Knows}
use Rattle.solution_search.specs.Cases.{IsBeaten}
use Rattle.solution_search.proofs.WeakOrder.{weak_better}
use Rattle.solution_search.proofs.Compared.{Means, means, More, after_put, knows_more, holds_more, knows_by, holds_by, not_less, weakly_worse}

-- the routes met so far, and one more at a router
abbrev pub MoreAt : (ℕ → Route → Type 0) → ℕ → Route → ℕ → Route → Type 0
MoreAt IsMet router other u c = IsMet u c ⊎ ((u ≡ router) × (c ≡ other))

best_same : (old new : Board) (w : ℕ) (o : Option Best) → w < length old.bests.items → Puts old new w o →
    best_at new.bests.items w ≡ after_put (best_at old.bests.items w) o
best_same old new w None h put = ap (λ (l : List (Option Best)). best_at l w) put.0
best_same old new w (Some b) h put = ap (λ (l : List (Option Best)). best_at l w) put.0 ∙ get_or-set_same old.bests.items w (Some b) None h

best_other : (old new : Board) (w u : ℕ) (o : Option Best) → u ≢ w → Puts old new w o → best_at new.bests.items u ≡ best_at old.bests.items u
best_other old new w u None differ put = ap (λ (l : List (Option Best)). best_at l u) put.0
best_other old new w u (Some b) differ put = ap (λ (l : List (Option Best)). best_at l u) put.0 ∙ get_or-set_other old.bests.items w u (Some b) None differ

bests_length : (old new : Board) (w : ℕ) (o : Option Best) → Puts old new w o → length new.bests.items ≡ length old.bests.items
bests_length old new w None put = ap (λ (l : List (Option Best)). length l) put.0
bests_length old new w (Some b) put = ap (λ (l : List (Option Best)). length l) put.0 ∙ length-set old.bests.items w (Some b)

either_some : (b : Bool) (x y : Tie) → is_some (if b then Some x else Some y) ≡ true
either_some true x y = refl
either_some false x y = refl

pub tie_is_noted : (tie : Option Tie) (w : ℕ) (by : Difference) → is_some (noted_tie tie w by) ≡ true
tie_is_noted None w by = refl
tie_is_noted (Some tie) w by = either_some (told (Some tie.by) by) tie (record { router = w; by = by })

-- a tie that is noted stays
noted_stays : (tie : Option Tie) (w : ℕ) (r : Rank) → is_some (noted_by tie w r) ≡ false → is_some tie ≡ false
noted_stays tie w rank.Better e = e
noted_stays tie w rank.Equal e = e
noted_stays tie w rank.Worse e = e
noted_stays tie w (rank.TiedBetter by) e = let noted = tie_is_noted tie w by in absurd (cc)
noted_stays tie w (rank.TiedWorse by) e = let noted = tie_is_noted tie w by in absurd (cc)

pub added_tied : (P : Problem) (old new : Board) (w : ℕ) (offer : Best) (outcome : Outcome) → Adds P old new w offer outcome → is_tied new ≡ false →
    is_tied old ≡ false
added_tied P old new w offer outcome a e = noted_stays old.tie w (rank_at P (label old.labels w) offer)
    (ap (λ (t : Option Tie). is_some t) (sym a.tie) ∙ e)

-- what a rank says of a settled router's label
record Stands (P : Problem) (tied : Bool) (other route : Route) : Type 0 where
  not : compare_keys (key_of P other) (key_of P route) ≢ Less
  same : tied ≡ false → compare_weak (key_of P other) (key_of P route) ≡ Equal → key_of P other ≡ key_of P route

stands_by : (P : Problem) (tie : Option Tie) (w : ℕ) (other route : Route) (r : Rank) → Means (key_of P other) (key_of P route) r → outcome_of r ≡ Fine →
    Stands P (is_some (noted_by tie w r)) other route
stands_by P tie w other route rank.Better m fine = absurd (cc)
stands_by P tie w other route (rank.TiedBetter by) m fine = absurd (cc)
stands_by P tie w other route rank.Equal m fine = record { not = irreflexive (key_of P other) (key_of P route) m; same = λ untied e. m }
stands_by P tie w other route rank.Worse m fine = record { not = weakly_worse (key_of P other) (key_of P route) m; same = λ untied e. absurd (cc) }
stands_by P tie w other route (rank.TiedWorse by) m fine = record {
  not = not_less (key_of P other) (key_of P route) m.1;
  same = λ untied e. (let noted = tie_is_noted tie w by in absurd (cc));
}

-- what a rank says of a label that is beaten
record Falls (P : Problem) (tied : Bool) (other route : Route) : Type 0 where
  better : compare_keys (key_of P other) (key_of P route) ≡ Less
  weakly : tied ≡ false → compare_weak (key_of P other) (key_of P route) ≡ Less

falls_by : (P : Problem) (tie : Option Tie) (w : ℕ) (other route : Route) (r : Rank) → Means (key_of P other) (key_of P route) r → outcome_of r ≡ Upset →
    Falls P (is_some (noted_by tie w r)) other route
falls_by P tie w other route rank.Better m upset = record {
  better = weak_better (key_of P other) (key_of P route) m;
  weakly = λ untied. m;
}
falls_by P tie w other route (rank.TiedBetter by) m upset = record {
  better = m.1;
  weakly = λ untied. (let noted = tie_is_noted tie w by in absurd (cc));
}
falls_by P tie w other route rank.Equal m upset = absurd (cc)
falls_by P tie w other route rank.Worse m upset = absurd (cc)
falls_by P tie w other route (rank.TiedWorse by) m upset = absurd (cc)

module _ (P : Problem) (IsMet : ℕ → Route → Type 0) (old new : Board) (router : ℕ) (offer : Best) (outcome : Outcome)
    (knows : Knows P (is_tied old) IsMet (state_of old)) (inside : router < count P) (fresh : IsFresh P offer)
    (adds : Adds P old new router offer outcome) where
  -- the router is settled: how the offer compares with its label
  settled_means : (r : Route) → label old.labels router ≡ Some r → Means (key_of P offer.route) (key_of P r) (rank_at P (label old.labels router) offer)
  settled_means r e = subst (λ (o : Option Route). Means (key_of P offer.route) (key_of P r) (rank_at P o offer)) (sym e)
      (means P offer (fresh_of P r) fresh.lone refl)

  pub added_beaten : outcome ≡ Upset → (r : Route) → label old.labels router ≡ Some r → IsCandidate P new.labels router offer.route →
      IsBeaten P (is_tied new) new.labels
  added_beaten upset r e candidate =
      let rank = rank_at P (label old.labels router) offer in
      let f = falls_by P old.tie router offer.route r rank (settled_means r e) (sym adds.is_outcome ∙ upset) in
      record {
        router = router;
        route = r;
        labelled = ap (λ (l : List (Option Route)). label l router) adds.labels ∙ e;
        other = offer.route;
        candidate = candidate;
        better = f.better;
        weakly = λ untied. f.weakly (ap (λ (t : Option Tie). is_some t) (sym adds.tie) ∙ untied);
      }

  -- an upset needs a label
  pub upset_labelled : outcome ≡ Upset → (r : Route) × (label old.labels router ≡ Some r)
  upset_labelled upset = elim (cases_label (label old.labels router)) [
    | inr some ↦ some
    | inl none ↦
        let fine : Fine ≡ Upset = ap (λ (o : Option Route). outcome_of (rank_at P o offer)) (sym none) ∙ sym adds.is_outcome ∙ upset in
        absurd (cc)
  ]

  pub added_knows : outcome ≡ Fine → Knows P (is_tied new) (MoreAt IsMet router offer.route) (state_of new)
  added_knows fine = record {
    fitting = subst (AreLabels P) (sym adds.labels) knows.fitting;
    waits = ap (λ (l : List (Option ℕ)). length l) adds.waits ∙ knows.waits;
    bests = bests_length old new router put adds.put ∙ knows.bests;
    unsettled = λ u h e. opened u h (ap (λ (l : List (Option Route)). label l u) (sym adds.labels) ∙ e);
    settled = λ u r e. closed u r (ap (λ (l : List (Option Route)). label l u) (sym adds.labels) ∙ e);
  }
    where
      put : Option Best
      put = better_than (label old.labels router) (best_at old.bests.items router) offer

      within : router < length old.bests.items
      within = let b = knows.bests in omega (arith, b, inside)

      kept : is_tied new ≡ false → is_tied old ≡ false
      kept = added_tied P old new router offer outcome adds

      elsewhere : (u : ℕ) → u ≢ router → (c : Route) → MoreAt IsMet router offer.route u c → IsMet u c
      elsewhere u differ c (inl met) = met
      elsewhere u differ c (inr here) = absurd (differ here.0)

      here_more : (c : Route) → More (IsMet router) offer.route c → MoreAt IsMet router offer.route router c
      here_more c (inl met) = inl met
      here_more c (inr new) = inr (refl, new)

      more_here : (c : Route) → MoreAt IsMet router offer.route router c → More (IsMet router) offer.route c
      more_here c (inl met) = inl met
      more_here c (inr new) = inr new.1

      opened : (u : ℕ) → u < count P → label old.labels u ≡ None → KnowsBest P (MoreAt IsMet router offer.route u) (best_at new.bests.items u)
      opened u h e = elim (cases_eq u router) [
        | inr differ ↦
            subst (KnowsBest P (MoreAt IsMet router offer.route u)) (sym (best_other old new router u put differ adds.put))
            (knows_by P (IsMet u) (MoreAt IsMet router offer.route u) (best_at old.bests.items u) (λ c m. inl m) (elsewhere u differ) (knows.unsettled u h e))
        | inl same ↦
            let f : label old.labels router ≡ None = subst (λ (v : ℕ). label old.labels v ≡ None) same e in
            subst (λ (v : ℕ). KnowsBest P (MoreAt IsMet router offer.route v) (best_at new.bests.items v)) (sym same)
            (subst (KnowsBest P (MoreAt IsMet router offer.route router)) (sym (best_same old new router put within adds.put))
            (subst (λ (l : Option Route). KnowsBest P (MoreAt IsMet router offer.route router)
            (after_put (best_at old.bests.items router) (better_than l (best_at old.bests.items router) offer)))
            (sym f)
            (knows_by P (More (IsMet router) offer.route) (MoreAt IsMet router offer.route router)
            (after_put (best_at old.bests.items router) (better_than None (best_at old.bests.items router) offer)) here_more more_here
            (knows_more P (IsMet router) (best_at old.bests.items router) offer fresh (knows.unsettled router inside f)))))
      ]

      closed : (u : ℕ) (r : Route) → label old.labels u ≡ Some r → HoldsBest P (is_tied new) (MoreAt IsMet router offer.route u) r
      closed u r e = elim (cases_eq u router) [
        | inr differ ↦
            holds_by P (is_tied old) (is_tied new) (IsMet u) (MoreAt IsMet router offer.route u) r (λ c m. inl m) (elsewhere u differ) kept
            (knows.settled u r e)
        | inl same ↦
            let f : label old.labels router ≡ Some r = subst (λ (v : ℕ). label old.labels v ≡ Some r) same e in
            let rank = rank_at P (label old.labels router) offer in
            let s = stands_by P old.tie router offer.route r rank (settled_means r f) (sym adds.is_outcome ∙ fine) in
            subst (λ (v : ℕ). HoldsBest P (is_tied new) (MoreAt IsMet router offer.route v) r) (sym same)
            (holds_by P (is_tied new) (is_tied new) (More (IsMet router) offer.route) (MoreAt IsMet router offer.route router) r
            here_more more_here (λ x. x)
            (holds_more P (is_tied old) (is_tied new) (IsMet router) r offer.route (knows.settled router r f) kept s.not
            (λ untied. s.same (ap (λ (t : Option Tie). is_some t) (sym adds.tie) ∙ untied))))
      ]
