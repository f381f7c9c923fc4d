-- Printed solutions are read: what is written of stable labels is no longer than a file with a solution may be, and an
-- order is no longer than a schedule may be.
use Rattle.std.specs.Prelude.{◌≡◌, ◌≤◌, ℕ, List, ◌++◌, Some, codes, length}
use Rattle.answer_kit.specs.Outcome.{done}
use Rattle.answer_kit.specs.SecondFiles.{solution_limit}
use Rattle.answer_runs.specs.Schedules.{schedule_limit}
use Rattle.bonsai_top.specs.Outcomes.{IsOutcome}
use Rattle.workflow_laws.specs.Setting.{Contents, IsShort}
use Rattle.workflow_laws.specs.Words.{fold, lift, reach, run}

-- what the commands on a second file write
pub record AreRead (contents : Contents) (F S : List ℕ) (N : ℕ) : Type 0 where
  pub folded : (written : List ℕ) → IsOutcome (fold F N S) contents (done written) → length written ≤ solution_limit
  pub lifted : (written : List ℕ) → IsOutcome (lift F N S) contents (done written) → length written ≤ solution_limit
  pub rested : (written : List ℕ) → IsOutcome (run F N S) contents (done (codes "rest\n" ++ written)) → length written ≤ solution_limit
  pub reached : (written : List ℕ) → IsOutcome (reach F N S) contents (done written) → length written ≤ schedule_limit

-- What `fold` and `lift` write, and what `run` writes behind the first line `rest`, is within the limit
-- of a solution. What `reach` writes is within the limit of a schedule.
abbrev pub PrintedIsShort : Type 0
PrintedIsShort = (contents : Contents) (F S text second : List ℕ) (N : ℕ) → IsShort N → contents F ≡ Some text → contents S ≡ Some second
    → AreRead contents F S N
