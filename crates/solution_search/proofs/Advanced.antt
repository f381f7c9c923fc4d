-- What a look at the board comes to.
use Rattle.std.proofs.Common.{◌≡◌, ℕ, ◌^◌, ◌<◌, Bool, false, All, List, ◌∷◌, length, map, set, Option, Some, None, sym, ap, ◌∙◌, subst, arith, length-set}
use Rattle.std.specs.Prelude.{is_some, slice_index_or}
use Rattle.std.proofs.lemmas.List.Elements.{All-cons}
use Rattle.srp_core.specs.declared.route.Route.{Route}
use Rattle.srp_core.specs.Routes.{preference_of}
use Rattle.srp_core.specs.Problem.{Problem, count, IsProblem}
use Rattle.srp_core.specs.Stability.{label, IsCandidate}
use Rattle.srp_core.specs.Weak.{IsWeaklyStable}
use Rattle.solution_search.specs.declared.bests.Best.{Best}
use Rattle.solution_search.specs.declared.board.Board.{Board}
use Rattle.solution_search.specs.declared.board.Tie.{Tie}
use Rattle.solution_search.specs.declared.board.Wait.{Wait}
use Rattle.solution_search.specs.declared.sweeping.Look.{Look}
use Rattle.solution_search.specs.declared.sweeping.Look.TheVariants.{Settled, Dead, Solved}
use Rattle.solution_search.specs.declared.settling.Outcome.{Outcome}
use Rattle.solution_search.specs.declared.settling.Outcome.TheVariants.{Fine, Upset}
use Rattle.solution_search.specs.Boards.{State, state_of, case_of, best_at, is_tied, waits_for, pending_of, pending_cases, cases_of, IsState, IsBoard}
use Rattle.solution_search.specs.Burdens.{burden}
use Rattle.solution_search.specs.Cases.{Case, IsOpen, IsNext, taken, AreUnbeaten, IsBeaten, HasOneKey, HasNoTie, IsCase, Admits}
use Rattle.solution_search.specs.Looks.{IsClosed, HasOffered, HasNoneOffered}
use Rattle.solution_search.specs.Search.{IsSearched}
use Rattle.solution_search.specs.Settled.{ComesTo, HasSettled}
use Rattle.solution_search.specs.Steps.{IsPutOff, Looked, left_over, IsLeft, SearchSteps}
use Rattle.solution_search.proofs.Burden.{settled_lighter, forked_lighter, waiting_lighter, dropped_lighter}
use Rattle.solution_search.proofs.Compared.{holds_by}
use Rattle.solution_search.proofs.Following.{settled, forked, settled_beaten, forked_beaten, dead, solved}
use Rattle.solution_search.proofs.Opened.{is_at_end, offered, none_offered}
use Rattle.solution_search.proofs.CaseEnds.{dead_end}
use Rattle.solution_search.proofs.Taking.{IsMet}

-- a look after a router was settled
abbrev pub look_of : Outcome → Look
look_of Fine = Settled
look_of Upset = Dead

module _ (P : Problem) (tied : Bool) (s : State) (known : IsState P tied s) where
  -- no label of a settled router is beaten
  pub unbeaten : AreUnbeaten P s.labels
  unbeaten = record { best = λ u r c e cand. (known.knows.settled u r e).unbeaten c cand }

  pub untied : tied ≡ false → HasNoTie P s.labels
  untied none = record { same = λ u r c e cand same. (known.knows.settled u r e).same none c cand same }

  -- if no tie of the offers is told, those of the preference and the size of the best have its key
  pub one_key : (u : ℕ) (best : Best) → u < count P → label s.labels u ≡ None → best_at s.bests u ≡ Some best → best.tied ≡ None →
      HasOneKey P (case_of s) u best.route
  one_key u best inside none e never = record {
    same = λ other o same. ((known.knows.unsettled u inside none).some best e).same never other o.candidate same;
  }

  -- a tie that is met later changes nothing
  pub known_on : (tied' : Bool) → (tied' ≡ false → tied ≡ false) → IsState P tied' s
  known_on tied' kept = record {
    knows = record {
      fitting = known.knows.fitting;
      waits = known.knows.waits;
      bests = known.knows.bests;
      unsettled = known.knows.unsettled;
      settled = λ u r e. holds_by P tied tied' (IsCandidate P s.labels u) (IsCandidate P s.labels u) r (λ c m. m) (λ c m. m) kept
          (known.knows.settled u r e);
    };
  }

  -- nor does what a router waits for
  pub known_waiting : (wait : Wait) → IsState P tied (waits_for wait s)
  known_waiting wait = record {
    knows = record {
      fitting = known.knows.fitting;
      waits = length-set s.waits wait.router (Some wait.preference) ∙ known.knows.waits;
      bests = known.knows.bests;
      unsettled = known.knows.unsettled;
      settled = known.knows.settled;
    };
  }

all_known : (P : Problem) (tied tied' : Bool) → (tied' ≡ false → tied ≡ false) → (states : List State) → All (IsState P tied) states →
    All (IsState P tied') states
all_known P tied tied' kept states h = λ k d less. known_on P tied (slice_index_or states k d) (h k d less) tied' kept

-- ---- no router is open

module _ (P : Problem) (good : IsProblem P) (board : Board) (rules : IsBoard P board) where
  at_rest : IsPutOff P board
  at_rest = record { fits = rules.fits; pending = rules.pending }

  pub dead_left : IsLeft P board Dead
  dead_left = at_rest

  -- every router with an offer is settled: the labels are stable
  pub solved_left : HasNoneOffered (state_of board) (count P) → IsLeft P board Solved
  solved_left none = (
    at_rest,
    record {
      fitting = rules.state.knows.fitting;
      none = λ u c h e cand. none_offered P good (is_tied board) (state_of board) rules.state none u c (record { unsettled = e; candidate = cand });
      held = λ u r h e. (rules.state.knows.settled u r e).held;
      best = λ u r c h e cand. (rules.state.knows.settled u r e).unbeaten c cand;
    },
  )

  pub dead_lighter : burden (left_over board Dead) < burden (cases_of board)
  dead_lighter = dropped_lighter (case_of (state_of board)) (pending_cases board)

  pub solved_lighter : burden (left_over board Solved) < burden (cases_of board)
  solved_lighter = dropped_lighter (case_of (state_of board)) (pending_cases board)

  pub dead_looked : (IsCase P (case_of (state_of board)) → (L : List (Option Route)) → IsWeaklyStable P L → ¬ Admits P (case_of (state_of board)) L) →
      (found : List (List (Option Route))) →
      IsSearched P found (cases_of board) (is_tied board) → Looked P found board Dead
  dead_looked never found searched = dead P good found (case_of (state_of board)) (pending_cases board) (is_tied board) searched never

  -- no router is open, and one has an offer and no label
  pub none_open : IsClosed (state_of board) (count P) → HasOffered (state_of board) (count P) → IsCase P (case_of (state_of board)) →
      (L : List (Option Route)) → IsWeaklyStable P L → ¬ Admits P (case_of (state_of board)) L
  none_open closed has is_case L w =
      let o = offered P good (is_tied board) (state_of board) rules.state has in
      dead_end P good (case_of (state_of board)) is_case (is_at_end P good (is_tied board) (state_of board) rules.state closed) o.0 o.1.0 o.1.1 L w

  pub solved_looked : HasNoneOffered (state_of board) (count P) → (found : List (List (Option Route))) →
      IsSearched P found (cases_of board) (is_tied board) → Looked P found board Solved
  solved_looked none found searched =
      solved P good found (case_of (state_of board)) (pending_cases board) (is_tied board) searched
      (none_offered P good (is_tied board) (state_of board) rules.state none)

-- ---- a router was settled

-- the take leads to the labels that the case admits
abbrev pub Leads : Problem → Case → ℕ → Route → Type 0
Leads P case u d = IsCase P case → (L : List (Option Route)) → IsMet P case u d L → Admits P case L → Admits P (taken case u d) L

-- what the board has put off after a step, and why
pub data PutOff (P : Problem) (old new : Board) (u : ℕ) (best : Best) : Type 0 where
  nothing_more : pending_of new ≡ pending_of old → Leads P (case_of (state_of old)) u best.route → PutOff P old new u best
  one_more : pending_of new ≡ waits_for (record { router = u; preference = preference_of best.route }) (state_of old) ∷ pending_of old →
      IsNext P (case_of (state_of old)) u best.route → preference_of best.route < 2 ^ 32 → PutOff P old new u best

-- the router that is settled, and its best offer
pub record Takeable (P : Problem) (old : Board) (u : ℕ) (best : Best) : Type 0 where
  pub is_open : IsOpen P (case_of (state_of old)) u best.route
  pub inside : u < count P
  pub is_best : best_at old.bests.items u ≡ Some best

module _ (P : Problem) (good : IsProblem P) (old mid new : Board) (rules : IsBoard P old) (u : ℕ) (best : Best) (takeable : Takeable P old u best)
    (same_state : state_of mid ≡ state_of old) (same_tie : mid.tie ≡ old.tie) (outcome : Outcome) (step : HasSettled P mid new u best outcome)
    (put_off : PutOff P old new u best) where
  abbrev before : Case
  before = case_of (state_of old)

  abbrev wait : Wait
  wait = record { router = u; preference = preference_of best.route }

  opened : IsOpen P before u best.route
  opened = takeable.is_open

  kept : is_tied new ≡ false → is_tied old ≡ false
  kept e = ap (λ (t : Option Tie). is_some t) (sym same_tie) ∙ step.tied e

  known_mid : IsState P (is_tied mid) (state_of mid)
  known_mid = subst (λ (t : Option Tie). IsState P (is_some t) (state_of mid)) (sym same_tie) (subst (IsState P (is_tied old)) (sym same_state) rules.state)

  came : ComesTo P (is_tied new) (state_of new) outcome
  came = step.comes known_mid

  same_labels : new.labels ≡ set old.labels u (Some best.route)
  same_labels = step.labels ∙ ap (λ (s : State). set s.labels u (Some best.route)) same_state

  pub same_case : case_of (state_of new) ≡ taken before u best.route
  same_case =
      let w = step.waits ∙ ap (λ (s : State). s.waits) same_state in
      λ i. record { labels = same_labels i; waits = w i }

  same_cases : (states : List State) → pending_of new ≡ states → cases_of new ≡ taken before u best.route ∷ map case_of states
  same_cases states e = ap (λ (c : Case). c ∷ pending_cases new) same_case ∙ ap (λ (l : List State). taken before u best.route ∷ map case_of l) e

  same_pending : (states : List State) → pending_of new ≡ states → pending_cases new ≡ map case_of states
  same_pending states e = ap (λ (l : List State). map case_of l) e

  no_tie_of_best : is_tied new ≡ false → HasOneKey P before u best.route
  no_tie_of_best e = one_key P (is_tied old) (state_of old) rules.state u best takeable.inside opened.best.offer.unsettled takeable.is_best (step.untied e)

  -- what has been searched then
  stepped_looked : (found : List (List (Option Route))) → IsSearched P found (cases_of old) (is_tied old) → Looked P found new (look_of outcome)
  stepped_looked found searched = by outcome came put_off
    where
      calm : IsState P (is_tied new) (state_of new) → AreUnbeaten P (taken before u best.route).labels
      calm state = subst (AreUnbeaten P) same_labels (unbeaten P (is_tied new) (state_of new) state)

      calm_tie : IsState P (is_tied new) (state_of new) → is_tied new ≡ false → HasNoTie P (taken before u best.route).labels
      calm_tie state e = subst (HasNoTie P) same_labels (untied P (is_tied new) (state_of new) state e)

      by : (o : Outcome) → ComesTo P (is_tied new) (state_of new) o → PutOff P old new u best → Looked P found new (look_of o)
      by Fine state (nothing_more e leads) = subst (λ (c : List Case). IsSearched P found c (is_tied new)) (sym (same_cases (pending_of old) e))
          (settled P good found before (pending_cases old) (is_tied old) searched u best.route opened (is_tied new) kept leads (calm state) (calm_tie state))
      by Fine state (one_more e next few) =
          subst (λ (c : List Case). IsSearched P found c (is_tied new)) (sym (same_cases (waits_for wait (state_of old) ∷ pending_of old) e))
          (forked P good found before (pending_cases old) (is_tied old) searched u best.route next (is_tied new) kept (calm state) (calm_tie state))
      by Upset beaten (nothing_more e leads) = subst (λ (c : List Case). IsSearched P found c (is_tied new)) (sym (same_pending (pending_of old) e))
          (settled_beaten P good found before (pending_cases old) (is_tied old) searched u best.route opened (is_tied new) kept leads
          (subst (IsBeaten P (is_tied new)) same_labels beaten) no_tie_of_best)
      by Upset beaten (one_more e next few) =
          subst (λ (c : List Case). IsSearched P found c (is_tied new)) (sym (same_pending (waits_for wait (state_of old) ∷ pending_of old) e))
          (forked_beaten P good found before (pending_cases old) (is_tied old) searched u best.route next (is_tied new) kept
          (subst (IsBeaten P (is_tied new)) same_labels beaten) no_tie_of_best)

  -- what the board knows then
  stepped_left : IsLeft P new (look_of outcome)
  stepped_left = by outcome came
    where
      known_pending : PutOff P old new u best → All (IsState P (is_tied new)) (pending_of new)
      known_pending (nothing_more e leads) = subst (All (IsState P (is_tied new))) (sym e)
          (all_known P (is_tied old) (is_tied new) kept (pending_of old) rules.pending)
      known_pending (one_more e next few) = subst (All (IsState P (is_tied new))) (sym e)
          (All-cons (IsState P (is_tied new)) (waits_for wait (state_of old)) (pending_of old)
          (known_on P (is_tied old) (waits_for wait (state_of old)) (known_waiting P (is_tied old) (state_of old) rules.state wait) (is_tied new) kept)
          (all_known P (is_tied old) (is_tied new) kept (pending_of old) rules.pending))

      by : (o : Outcome) → ComesTo P (is_tied new) (state_of new) o → IsLeft P new (look_of o)
      by Fine state = record { fits = step.fits; state = state; pending = known_pending put_off }
      by Upset beaten = record { fits = step.fits; pending = known_pending put_off }

  -- less is left to be followed
  stepped_lighter : burden (left_over new (look_of outcome)) < burden (cases_of old)
  stepped_lighter = by outcome put_off
    where
      inside_labels : u < length before.labels
      inside_labels = let i = takeable.inside in let l = rules.fits.labels in omega (arith, i, l)

      inside_waits : u < length before.waits
      inside_waits = let i = takeable.inside in let l = rules.fits.waits in omega (arith, i, l)

      unsettled : label before.labels u ≡ None
      unsettled = opened.best.offer.unsettled

      by : (o : Outcome) → PutOff P old new u best → burden (left_over new (look_of o)) < burden (cases_of old)
      by Fine (nothing_more e leads) = subst (λ (c : List Case). burden c < burden (cases_of old)) (sym (same_cases (pending_of old) e))
          (settled_lighter before (pending_cases old) u best.route inside_labels unsettled)
      by Fine (one_more e next few) =
          subst (λ (c : List Case). burden c < burden (cases_of old)) (sym (same_cases (waits_for wait (state_of old) ∷ pending_of old) e))
          (forked_lighter before (pending_cases old) u (preference_of best.route) best.route inside_labels unsettled inside_waits few opened.above)
      by Upset (nothing_more e leads) = subst (λ (c : List Case). burden c < burden (cases_of old)) (sym (same_pending (pending_of old) e))
          (dropped_lighter before (pending_cases old))
      by Upset (one_more e next few) =
          subst (λ (c : List Case). burden c < burden (cases_of old)) (sym (same_pending (waits_for wait (state_of old) ∷ pending_of old) e))
          (waiting_lighter before (pending_cases old) u (preference_of best.route) inside_waits few opened.above)

  pub stepped : SearchSteps P old new (look_of outcome)
  stepped = record { left = stepped_left; lighter = stepped_lighter; looked = stepped_looked }
