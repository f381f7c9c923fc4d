-- Carried down: what `fold` makes of a solution of the large network is one of the small network.
use Rattle.std.specs.Prelude.{◌≡◌, ℕ, List, Some, IsSome, codes}
use Rattle.answer_kit.specs.declared.status.Status.TheVariants.{Done}
use Rattle.answer_kit.specs.Outcome.{Outcome, done}
use Rattle.bonsai_top.specs.Outcomes.{IsOutcome}
use Rattle.workflow_laws.specs.Setting.{Contents, IsCompressed, IsShort, verdict_told}
use Rattle.workflow_laws.specs.Words.{check, fold, lift}

-- `check F N S` and `fold F N S` have the same outcome, refusals and `not stable` included, except for
-- what is written if the work is done.
abbrev pub CheckIsFold : Type 0
CheckIsFold = (contents : Contents) (F S text : List ℕ) (N : ℕ) → IsShort N → contents F ≡ Some text → IsSome (contents S)
    → (folded checked : Outcome) → IsOutcome (fold F N S) contents folded → IsOutcome (check F N S) contents checked → checked ≡ verdict_told folded

-- What `fold F N S` writes is stable under `check G K`.
abbrev pub WhatIsFoldedIsStableBelow : Type 0
WhatIsFoldedIsStableBelow = (contents : Contents) (F G S T solution written : List ℕ) (N K : ℕ) → IsCompressed contents F N G K → contents S ≡ Some solution
    → IsOutcome (fold F N S) contents (done written) → contents T ≡ Some written
    → (checked : Outcome) → IsOutcome (check G K T) contents checked → checked ≡ done (codes "stable\n")

-- `lift F N` takes what `fold F N S` writes.
abbrev pub WhatIsFoldedIsLifted : Type 0
WhatIsFoldedIsLifted = (contents : Contents) (F S T text solution written : List ℕ) (N : ℕ) → IsShort N → contents F ≡ Some text → contents S ≡ Some solution
    → IsOutcome (fold F N S) contents (done written) → contents T ≡ Some written
    → (lifted : Outcome) → IsOutcome (lift F N T) contents lifted → lifted.status ≡ Done
