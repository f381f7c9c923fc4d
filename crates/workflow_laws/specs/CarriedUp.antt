-- Asked below, carried up: what `check` says of a solution in the small network, and what `lift` makes of it in the
-- large one.
use Rattle.std.specs.Prelude.{◌≡◌, ℕ, List, Some, IsSome, codes}
use Rattle.answer_kit.specs.Outcome.{Outcome, done}
use Rattle.bonsai_top.specs.Outcomes.{IsOutcome}
use Rattle.workflow_laws.specs.Setting.{Contents, IsCompressed, IsShort, verdict_told}
use Rattle.workflow_laws.specs.Words.{check, lift}

-- `check G K S` and `lift F N S` have the same outcome, refusals and `not stable` included, except for
-- what is written if the work is done.
abbrev pub CheckBelowIsLift : Type 0
CheckBelowIsLift = (contents : Contents) (F G S : List ℕ) (N K : ℕ) → IsCompressed contents F N G K → IsSome (contents S)
    → (lifted checked : Outcome) → IsOutcome (lift F N S) contents lifted → IsOutcome (check G K S) contents checked → checked ≡ verdict_told lifted

-- What `lift F N S` writes is stable under `check F N`.
abbrev pub WhatIsLiftedIsStable : Type 0
WhatIsLiftedIsStable = (contents : Contents) (F S T text solution written : List ℕ) (N : ℕ) → IsShort N → contents F ≡ Some text → contents S ≡ Some solution
    → IsOutcome (lift F N S) contents (done written) → contents T ≡ Some written
    → (checked : Outcome) → IsOutcome (check F N T) contents checked → checked ≡ done (codes "stable\n")
