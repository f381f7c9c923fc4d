-- Routers are settled one after another by one table.
use Rattle.std.proofs.Common.{◌≡◌, Option, Some, None, refl, sym, subst}
use Rattle.srp_core.specs.Problem.{Problem}
use Rattle.solution_search.specs.declared.board.Board.{Board}
use Rattle.solution_search.specs.declared.sweeping.Look.{Look}
use Rattle.solution_search.specs.declared.sweeping.Look.TheVariants.{Settled}
use Rattle.solution_search.specs.Boards.{state_of, case_of, IsBoard}
use Rattle.solution_search.specs.Outlooks.{Table, ForeseesAll}
use Rattle.solution_search.specs.Steps.{SearchSteps, StepsTo}
use Rattle.solution_search.proofs.Stepping.{steps_twice}

-- some routers are settled so far, or all is as it was
abbrev pub SoFar : Problem → Board → Board → Option Look → Type 0
SoFar P old new None = new ≡ old
SoFar P old new (Some look) = (look ≡ Settled) × SearchSteps P old new Settled

pub so_far_more : (P : Problem) (old mid new : Board) (swept : Option Look) (look : Look) → SoFar P old mid swept → SearchSteps P mid new look →
    SearchSteps P old new look
so_far_more P old mid new None look same step = subst (λ (b : Board). SearchSteps P b new look) same step
so_far_more P old mid new (Some first) look so_far step = steps_twice P old mid new look so_far.1 step

pub so_far_steps : (P : Problem) (old new : Board) (swept : Option Look) → SoFar P old new swept → StepsTo P old new swept
so_far_steps P old new None same = same
so_far_steps P old new (Some look) so_far = subst (SearchSteps P old new) (sym so_far.0) so_far.1

-- a step to a look
pub step_to : (P : Problem) (old mid new : Board) (swept step : Option Look) (look : Look) → SoFar P old mid swept → StepsTo P mid new step → step ≡ Some look →
    SearchSteps P old new look
step_to P old mid new swept step look so_far steps is = so_far_more P old mid new swept look so_far (subst (StepsTo P mid new) is steps)

-- what is kept along the routers
pub record Kept (P : Problem) (table : Table) (old new : Board) (swept : Option Look) : Type 0 where
  pub board : IsBoard P new
  pub outlook : ForeseesAll P (case_of (state_of new)) None table
  pub so_far : SoFar P old new swept

pub kept_settled : (P : Problem) (table : Table) (old mid new : Board) (swept step : Option Look) → Kept P table old mid swept → StepsTo P mid new step →
    (step ≡ Some Settled → ForeseesAll P (case_of (state_of new)) None table) → step ≡ Some Settled → Kept P table old new (Some Settled)
kept_settled P table old mid new swept step kept steps outlook is = record {
  board = (subst (StepsTo P mid new) is steps).left;
  outlook = outlook is;
  so_far = (refl, step_to P old mid new swept step Settled kept.so_far steps is);
}

pub kept_same : (P : Problem) (table : Table) (old mid new : Board) (swept step : Option Look) → Kept P table old mid swept → StepsTo P mid new step →
    step ≡ None → Kept P table old new swept
kept_same P table old mid new swept step kept steps is =
    let same : new ≡ mid = subst (StepsTo P mid new) is steps in
    subst (λ (b : Board). Kept P table old b swept) (sym same) kept
