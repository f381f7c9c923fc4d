-- A look at the board, from what the functions ensure that it calls.
use Rattle.std.proofs.Common.{◌≡◌, ◌⊎◌, ℕ, ◌<◌, true, false, List, [], ◌∷◌, ◌++◌, length, Option, Some, None, refl, ap, ◌∙◌, subst, inl, inr, arith}
use Rattle.std.specs.Prelude.{is_some}
use Rattle.srp_core.specs.declared.route.Route.{Route}
use Rattle.srp_core.specs.Routes.{preference_of}
use Rattle.srp_core.specs.Problem.{Problem, count, IsProblem}
use Rattle.srp_core.specs.Stability.{label}
use Rattle.srp_core.specs.Weak.{IsWeaklyStable}
use Rattle.srp_core.proofs.Offers.{lone_bgp}
use Rattle.solution_search.specs.declared.bests.Best.{Best}
use Rattle.solution_search.specs.declared.board.Board.{Board}
use Rattle.solution_search.specs.declared.board.Change.{Change}
use Rattle.solution_search.specs.declared.board.Change.TheVariants.{Fork}
use Rattle.solution_search.specs.declared.settling.Outcome.{Outcome}
use Rattle.solution_search.specs.declared.sweeping.Look.{Look}
use Rattle.solution_search.specs.declared.sweeping.Look.TheVariants.{Settled, Dead, Solved}
use Rattle.solution_search.specs.Ahead.{MayHold, NothingComes}
use Rattle.solution_search.specs.Boards.{State, state_of, case_of, best_at, is_tied, pending, pending_of, IsBoard}
use Rattle.solution_search.specs.Cases.{Case, IsCase, IsOpen, Admits}
use Rattle.solution_search.specs.Looks.{open_size, IsLeast, IsClosed, is_offered, HasOffered, HasNoneOffered}
use Rattle.solution_search.specs.Outlooks.{Table, ForeseesAll}
use Rattle.solution_search.specs.Settled.{HasSettled}
use Rattle.solution_search.specs.Steps.{TakesAtOnce, Forks, SearchSteps}
use Rattle.solution_search.proofs.Advanced.{look_of, dead_left, solved_left, dead_lighter, solved_lighter, dead_looked, none_open, solved_looked, Leads, PutOff, nothing_more, one_more, Takeable, stepped, same_case}
use Rattle.solution_search.proofs.Clearing.{clear_admits, clear_dead, held_before}
use Rattle.solution_search.proofs.Opened.{Next, is_next, best_known, found_open, found_waiting}
use Rattle.solution_search.proofs.Pending.{pending_last, pending_kept}
use Rattle.solution_search.proofs.Taking.{not_lone_sure, sure_admits}

-- one step after another
pub steps_twice : (P : Problem) (old mid new : Board) (look : Look) → SearchSteps P old mid Settled → SearchSteps P mid new look → SearchSteps P old new look
steps_twice P old mid new look first second = record {
  left = second.left;
  lighter = (let a = first.lighter in let b = second.lighter in omega (arith, a, b));
  looked = λ found searched. second.looked found (first.looked found searched);
}

module _ (P : Problem) (good : IsProblem P) (old : Board) (rules : IsBoard P old) where
  abbrev before : Case
  before = case_of (state_of old)

  -- the case admits nothing
  dead_by : (IsCase P before → (L : List (Option Route)) → IsWeaklyStable P L → ¬ Admits P before L) → SearchSteps P old old Dead
  dead_by never = record {
    left = dead_left P good old rules;
    lighter = dead_lighter P good old rules;
    looked = dead_looked P good old rules never;
  }

  pub dead : IsClosed (state_of old) (count P) → HasOffered (state_of old) (count P) → SearchSteps P old old Dead
  dead closed has = dead_by (none_open P good old rules closed has)

  pub solved : HasNoneOffered (state_of old) (count P) → SearchSteps P old old Solved
  solved none = record {
    left = solved_left P good old rules none;
    lighter = solved_lighter P good old rules;
    looked = solved_looked P good old rules none;
  }

  -- ---- the next router is settled

  module _ (router : ℕ) (least : IsLeast (state_of old) (count P) router) where
    pub next : Next P (state_of old) router
    next = is_next P good (is_tied old) (state_of old) rules.state router least

    pub inside : router < count P
    inside = next.inside

    pub unsettled : label old.labels router ≡ None
    unsettled = next.unsettled

    module _ (mid : Board) (forks : (best : Best) → best_at old.bests.items router ≡ Some best → Forks P old mid router best) where
      pub forked : Forks P old mid router next.best
      forked = forks next.best next.is_known

      leads : TakesAtOnce P before router (preference_of next.best.route) → Leads P before router next.best.route
      leads (inl not_lone) is_case L met admits =
          sure_admits P good before is_case router next.best.route next.next.is_open next.next.smallest
          (not_lone_sure P good before router next.best.route is_case.fitting next.next.is_open.best.offer not_lone) L met admits
      leads (inr (inl sure)) is_case L met admits =
          sure_admits P good before is_case router next.best.route next.next.is_open next.next.smallest sure L met admits
      leads (inr (inr around)) is_case L met admits =
          clear_admits P good before is_case router next.best.route next.next.is_open (Some router) around.1
          (inr (refl, lone_bgp P good router next.inside around.0)) L met admits

      pub in_turn : (new : Board) (outcome : Outcome) →
          ((best : Best) → best_at mid.bests.items router ≡ Some best → label mid.labels router ≡ None → HasSettled P mid new router best outcome) →
          SearchSteps P old new (look_of outcome)
      in_turn new outcome settles =
          stepped P good old mid new rules router next.best (record { is_open = next.next.is_open; inside = next.inside; is_best = next.is_known })
          forked.state forked.tie outcome step (by forked.changes)
        where
          step : HasSettled P mid new router next.best outcome
          step = settles next.best (ap (λ (s : State). best_at s.bests router) forked.state ∙ next.is_known)
              (ap (λ (s : State). label s.labels router) forked.state ∙ next.unsettled)

          at_mid : (changes : List Change) → mid.changes.items ≡ changes → pending_of new ≡ pending changes (state_of old)
          at_mid changes e = pending_kept mid new step.goes ∙ ap (λ (l : List Change). pending l (state_of mid)) e ∙ ap (pending changes) forked.state

          by : ((mid.changes.items ≡ old.changes.items) × TakesAtOnce P before router (preference_of next.best.route))
              ⊎ (mid.changes.items ≡ old.changes.items ++ Fork (record { router = router; preference = preference_of next.best.route }) ∷ []) →
              PutOff P old new router next.best
          by (inl same) = nothing_more (at_mid old.changes.items same.0) (leads same.1)
          by (inr more) = one_more
              (at_mid (old.changes.items ++ Fork (record { router = router; preference = preference_of next.best.route }) ∷ []) more
              ∙ pending_last old.changes.items (Fork (record { router = router; preference = preference_of next.best.route })) (state_of old))
              next.next forked.few

  -- ---- a router to which nothing comes

  module _ (router : ℕ) (inside : router < count P) (offered : is_offered (state_of old) router ≡ true) (nothing : NothingComes P before None router) where
    abbrev known : (label old.labels router ≡ None) × ((best : Best) × (best_at old.bests.items router ≡ Some best))
    known = best_known P good (is_tied old) (state_of old) rules.state router offered

    -- it waits
    pub clear_waiting : is_some (open_size (state_of old) router) ≡ false → SearchSteps P old old Dead
    clear_waiting f =
        let w = found_waiting P good (is_tied old) (state_of old) rules.state router inside known.0 known.1.0 known.1.1 f in
        dead_by (λ is_case L weak. clear_dead P good before is_case router w.0 nothing known.0 w.1 w.2 L weak)

    -- it is open
    module _ (is_open : is_some (open_size (state_of old) router) ≡ true) (new : Board) (outcome : Outcome)
        (settles : (best : Best) → best_at old.bests.items router ≡ Some best → label old.labels router ≡ None → HasSettled P old new router best outcome) where
      abbrev best : Best
      best = known.1.0

      opened : IsOpen P before router best.route
      opened = found_open P good (is_tied old) (state_of old) rules.state router inside known.0 best known.1.1 is_open

      step : HasSettled P old new router best outcome
      step = settles best known.1.1 known.0

      takeable : Takeable P old router best
      takeable = record { is_open = opened; inside = inside; is_best = known.1.1 }

      put_off : PutOff P old new router best
      put_off = nothing_more (pending_kept old new step.goes)
          (λ is_case L met admits. clear_admits P good before is_case router best.route opened None nothing (inl refl) L met admits)

      pub clear_taken : SearchSteps P old new (look_of outcome)
      clear_taken = stepped P good old old new rules router best takeable refl refl outcome step put_off

      within : router < length old.labels
      within = let l = rules.fits.labels in omega (arith, l, inside)

      -- a table stays right
      pub foresees_on : (table : Table) → ForeseesAll P before None table → ForeseesAll P (case_of (state_of new)) None table
      foresees_on table all = record {
        total = all.total;
        all = λ v r may. all.all v r (held_before P good before router best.route opened within v r
            (subst (λ (c : Case). MayHold P c None v r) (same_case P good old old new rules router best takeable refl refl outcome step put_off) may));
      }
