-- A turn of the search: the board goes back to what was put off, or the search ends.
use Rattle.std.proofs.Common.{◌≡◌, ℕ, ◌<◌, Bool, true, false, All, List, [], ◌∷◌, ◌++◌, length, map, replicate, Option, Some, None, refl, sym, ap, ◌∙◌, subst}
use Rattle.std.specs.Prelude.{is_some, IfNone}
use Rattle.std.proofs.lemmas.List.Elements.{All-head, All-tail}
use Rattle.srp_core.specs.declared.route.Route.{Route}
use Rattle.srp_core.specs.Problem.{Problem, count, IsProblem}
use Rattle.srp_core.specs.Stability.{IsStable}
use Rattle.solution_search.specs.declared.board.Board.{Board}
use Rattle.solution_search.specs.declared.board.Change.{Change}
use Rattle.solution_search.specs.declared.board.Tie.{Tie}
use Rattle.solution_search.specs.declared.searching.Ending.{Ending}
use Rattle.solution_search.specs.declared.searching.Ending.TheVariants.{All as EndsAll, Stopped}
use Rattle.solution_search.specs.declared.sweeping.Look.{Look}
use Rattle.solution_search.specs.declared.sweeping.Look.TheVariants.{Settled, Dead, Solved}
use Rattle.solution_search.specs.Boards.{State, state_of, case_of, is_tied, pending, pending_of, pending_cases, cases_of, IsTieWithin, Fits, IsState, IsBoard}
use Rattle.solution_search.specs.Burdens.{burden}
use Rattle.solution_search.specs.Cases.{Case, start_of}
use Rattle.solution_search.specs.Endings.{EndsWith}
use Rattle.solution_search.specs.Search.{IsSearched}
use Rattle.solution_search.specs.Steps.{IsPutOff, Looked, left_over, IsLeft, GoesBack, Turned}
use Rattle.solution_search.proofs.Following.{started, ended, ended_weak}

module _ (P : Problem) (good : IsProblem P) (old : Board) (left : IsPutOff P old) where
  module _ (new : Board) (tie : new.tie ≡ old.tie) (back : pending_of old ≡ state_of new ∷ pending_of new) where
    tied : is_tied old ≡ is_tied new
    tied = ap (λ (t : Option Tie). is_some t) (sym tie)

    cases : pending_cases old ≡ cases_of new
    cases = ap (λ (l : List State). map case_of l) back

    known : All (IsState P (is_tied new)) (state_of new ∷ pending_of new)
    known = subst (λ (b : Bool). All (IsState P b) (state_of new ∷ pending_of new)) tied (subst (All (IsState P (is_tied old))) back left.pending)

    -- what was put off last is followed
    pub back_board : Fits (length old.labels) new → IsBoard P new
    back_board fits = record {
      fits = subst (λ (n : ℕ). Fits n new) left.fits.labels fits;
      state = All-head (IsState P (is_tied new)) (state_of new) (pending_of new) known;
      pending = All-tail (IsState P (is_tied new)) (state_of new) (pending_of new) known;
    }

    pub back_searched : (found : List (List (Option Route))) → IsSearched P found (pending_cases old) (is_tied old) →
        IsSearched P found (cases_of new) (is_tied new)
    back_searched found searched = subst (λ (b : Bool). IsSearched P found (cases_of new) b) tied
        (subst (λ (l : List Case). IsSearched P found l (is_tied old)) cases searched)

    pub back_burden : burden (cases_of new) ≡ burden (pending_cases old)
    back_burden = ap burden (sym cases)

  ends_by : (tie : Option Tie) (found : List (List (Option Route))) (wants : Bool) → IsTieWithin (count P) tie → IsSearched P found [] (is_some tie) →
      EndsWith P found wants (EndsAll tie)
  ends_by None found wants within searched = (ended P good found false searched, ended_weak P good found false searched refl)
  ends_by (Some tie) found wants within searched = (ended P good found true searched, within)

  -- nothing was put off
  pub ends : (ending : Ending) → pending_of old ≡ [] → ending ≡ EndsAll old.tie → (found : List (List (Option Route))) (wants : Bool) →
      IsSearched P found (pending_cases old) (is_tied old) → EndsWith P found wants ending
  ends ending none is found wants searched = subst (EndsWith P found wants) (sym is)
      (ends_by old.tie found wants left.fits.tie
      (subst (λ (l : List Case). IsSearched P found l (is_tied old)) (ap (λ (l : List State). map case_of l) none) searched))

  -- the visitor has seen enough
  pub stops : (found : List (List (Option Route))) (wants : Bool) → wants ≡ false → IsSearched P found (pending_cases old) (is_tied old) →
      EndsWith P found wants Stopped
  stops found wants enough searched = (searched.stable, enough)

-- ---- what follows of a look

module _ (P : Problem) (good : IsProblem P) (old mid : Board) (look : Look) (left : IsLeft P mid look)
    (lighter : burden (left_over mid look) < burden (cases_of old))
    (looked : (found : List (List (Option Route))) → IsSearched P found (cases_of old) (is_tied old) → Looked P found mid look) where
  -- a router was settled
  pub settled_board : look ≡ Settled → IsBoard P mid
  settled_board e = subst (IsLeft P mid) e left

  pub settled_lighter : look ≡ Settled → burden (cases_of mid) < burden (cases_of old)
  settled_lighter e = subst (λ (x : Look). burden (left_over mid x) < burden (cases_of old)) e lighter

  pub settled_searched : look ≡ Settled → (found : List (List (Option Route))) → IsSearched P found (cases_of old) (is_tied old) →
      IsSearched P found (cases_of mid) (is_tied mid)
  settled_searched e found searched = subst (Looked P found mid) e (looked found searched)

  -- the case is dead
  pub dead_left : look ≡ Dead → IsPutOff P mid
  dead_left e = subst (IsLeft P mid) e left

  pub dead_lighter : look ≡ Dead → burden (pending_cases mid) < burden (cases_of old)
  dead_lighter e = subst (λ (x : Look). burden (left_over mid x) < burden (cases_of old)) e lighter

  pub dead_searched : look ≡ Dead → (found : List (List (Option Route))) → IsSearched P found (cases_of old) (is_tied old) →
      IsSearched P found (pending_cases mid) (is_tied mid)
  dead_searched e found searched = subst (Looked P found mid) e (looked found searched)

  -- it has a solution
  pub solved_left : look ≡ Solved → IsPutOff P mid × IsStable P mid.labels
  solved_left e = subst (IsLeft P mid) e left

  pub solved_lighter : look ≡ Solved → burden (pending_cases mid) < burden (cases_of old)
  solved_lighter e = subst (λ (x : Look). burden (left_over mid x) < burden (cases_of old)) e lighter

  pub solved_searched : look ≡ Solved → (found : List (List (Option Route))) → IsSearched P found (cases_of old) (is_tied old) →
      IsSearched P (found ++ mid.labels ∷ []) (pending_cases mid) (is_tied mid)
  solved_searched e found searched = subst (Looked P found mid) e (looked found searched)

-- the board behind a dead case or a solution
module _ (P : Problem) (good : IsProblem P) (mid new : Board) (put_off : IsPutOff P mid) (tie : new.tie ≡ mid.tie) (fits : Fits (length mid.labels) new) where
  pub gone_board : (ending : Option Ending) → GoesBack mid new ending → IfNone ending (IsBoard P new)
  gone_board None back = back_board P good mid put_off new tie back fits
  gone_board (Some ending) back = tt

  pub gone_lighter : (ending : Option Ending) → GoesBack mid new ending → (n : ℕ) → burden (pending_cases mid) < n → IfNone ending (burden (cases_of new) < n)
  gone_lighter None back n less = subst (λ (b : ℕ). b < n) (sym (back_burden P good mid put_off new tie back)) less
  gone_lighter (Some ending) back n less = tt

  pub gone_turned : (ending : Option Ending) → GoesBack mid new ending → (found : List (List (Option Route))) (wants : Bool) →
      IsSearched P found (pending_cases mid) (is_tied mid) → Turned P found wants new ending
  gone_turned None back found wants searched = back_searched P good mid put_off new tie back found searched
  gone_turned (Some ending) back found wants searched = ends P good mid put_off ending back.0 back.1 found wants searched

-- nothing has been followed yet
pub start_searched : (P : Problem) → IsProblem P → (board : Board) → board.labels ≡ replicate (count P) None → board.waits.items ≡ replicate (count P) None →
    board.changes.items ≡ [] → board.tie ≡ None → IsSearched P [] (cases_of board) (is_tied board)
start_searched P good board labels waits changes tie =
    let whole : case_of (state_of board) ≡ start_of P = λ i. record { labels = labels i; waits = waits i } in
    let rest : pending_cases board ≡ [] = ap (λ (l : List Change). map case_of (pending l (state_of board))) changes in
    let all : cases_of board ≡ start_of P ∷ [] = ap (λ (c : Case). c ∷ pending_cases board) whole ∙ ap (λ (l : List Case). start_of P ∷ l) rest in
    subst (λ (b : Bool). IsSearched P [] (cases_of board) b) (ap (λ (t : Option Tie). is_some t) (sym tie))
    (subst (λ (l : List Case). IsSearched P [] l false) (sym all) (started P good))
