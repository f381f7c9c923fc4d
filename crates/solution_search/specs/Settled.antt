-- What the board knows after a router was settled.
use Rattle.std.specs.Prelude.{◌≡◌, ℕ, Bool, false, Contains, List, [], ◌∷◌, ◌++◌, set, Option, Some, None}
use Rattle.base_kit.specs.declared.act_graph.Edge.{Edge}
use Rattle.refine_partition.specs.declared.imports.Import.{Import}
use Rattle.refine_partition.specs.Index.{import_from}
use Rattle.srp_core.specs.declared.route.Route.{Route}
use Rattle.srp_core.specs.Problem.{Problem, count}
use Rattle.solution_search.specs.declared.bests.Best.{Best}
use Rattle.solution_search.specs.declared.board.Board.{Board}
use Rattle.solution_search.specs.declared.settling.Outcome.{Outcome}
use Rattle.solution_search.specs.declared.settling.Outcome.TheVariants.{Fine, Upset}
use Rattle.solution_search.specs.Boards.{State, state_of, is_tied, Fits, GoesOn, IsState, IsPart}
use Rattle.solution_search.specs.Cases.{IsBeaten}

-- what the board knows then, or that a label is beaten
abbrev pub ComesTo : Problem → Bool → State → Outcome → Type 0
ComesTo problem tied state Fine = IsState problem tied state
ComesTo problem tied state Upset = IsBeaten problem tied state.labels

-- an edge is done, or a label is beaten
abbrev pub PartComesTo : Problem → Bool → List (Option Route) → ℕ → List Import → State → Outcome → Type 0
PartComesTo problem tied before exporter done state Fine = IsPart problem tied before exporter done state
PartComesTo problem tied before exporter done state Upset = IsBeaten problem tied state.labels

-- what the router gives over one of its edges is added to the board
pub record HasGiven (problem : Problem) (old new : Board) (router : ℕ) (i : Import) (outcome : Outcome) : Type 0 where
  pub goes : GoesOn old new
  pub fits : Fits (count problem) new
  pub labels : new.labels ≡ old.labels
  pub waits : new.waits.items ≡ old.waits.items
  pub tied : is_tied new ≡ false → is_tied old ≡ false
  pub comes : (before : List (Option Route)) (done : List Import) (edge : Edge) → Contains problem.edges edge → import_from router edge ≡ Some i →
      IsPart problem (is_tied old) before router done (state_of old) → PartComesTo problem (is_tied new) before router (done ++ i ∷ []) (state_of new) outcome

-- what the router offers is added to the board
pub record HasSpread (problem : Problem) (old new : Board) (router : ℕ) (outcome : Outcome) : Type 0 where
  pub goes : GoesOn old new
  pub fits : Fits (count problem) new
  pub labels : new.labels ≡ old.labels
  pub waits : new.waits.items ≡ old.waits.items
  pub tied : is_tied new ≡ false → is_tied old ≡ false
  pub comes : (before : List (Option Route)) → IsPart problem (is_tied old) before router [] (state_of old) → ComesTo problem (is_tied new) (state_of new) outcome

-- the router took its best offer
pub record HasSettled (problem : Problem) (old new : Board) (router : ℕ) (best : Best) (outcome : Outcome) : Type 0 where
  pub goes : GoesOn old new
  pub fits : Fits (count problem) new
  pub labels : new.labels ≡ set old.labels router (Some best.route)
  pub waits : new.waits.items ≡ old.waits.items
  pub tied : is_tied new ≡ false → is_tied old ≡ false
  pub untied : is_tied new ≡ false → best.tied ≡ None
  pub comes : IsState problem (is_tied old) (state_of old) → ComesTo problem (is_tied new) (state_of new) outcome
