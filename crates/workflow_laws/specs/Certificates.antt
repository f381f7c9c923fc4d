-- Certificates: `verify` says yes to what `certify` writes, and a text to which it says yes names the groups.
use Rattle.std.specs.Prelude.{◌≡◌, ℕ, List, [], ◌∷◌, map, filter_map, Option, Some, None, codes, bytes_eq, if◌then◌else◌}
use Rattle.std.specs.List.{range_with_len}
use Rattle.base_kit.specs.Partition.{members_of}
use Rattle.cfg_ast.specs.text.Members.{all_lines_of}
use Rattle.cfg_ast.specs.text.TextLines.{TextLine, text_line}
use Rattle.group_report.specs.GroupLines.{group_lines, name_at}
use Rattle.srp_core.specs.Problem.{Problem}
use Rattle.answer_kit.specs.Outcome.{Outcome, done}
use Rattle.bonsai_top.specs.Outcomes.{IsOutcome}
use Rattle.workflow_laws.specs.Setting.{Contents, IsShort}
use Rattle.workflow_laws.specs.Words.{certify, groups, verify}

-- What `certify F N` writes gives `yes` under `verify F N`.
abbrev pub WhatIsCertifiedIsVerified : Type 0
WhatIsCertifiedIsVerified = (contents : Contents) (F T text written : List ℕ) (N : ℕ) → IsShort N → contents F ≡ Some text
    → IsOutcome (certify F N) contents (done written) → contents T ≡ Some written
    → (verified : Outcome) → IsOutcome (verify F N T) contents verified → verified ≡ done (codes "yes\n")

-- the names on a line `group NAME ..`
abbrev pub names_on : List (List ℕ) → Option (List (List ℕ))
names_on [] = None
names_on (word ∷ names) = if bytes_eq word (codes "group") then Some names else None

-- the names on the lines `group NAME ..` of a text, in order
abbrev pub named_groups : List ℕ → List (List (List ℕ))
named_groups text = filter_map (λ (l : TextLine). names_on l.words) (map (text_line text) (all_lines_of text))

-- the names on the line that is printed for a group
abbrev pub names_in : Problem → List ℕ → ℕ → List (List ℕ)
names_in problem partition group = map (name_at problem) (members_of partition group)

-- The outcome has a line for each of these groups, in order, with the same names.
pub record PrintsGroups (named : List (List (List ℕ))) (o : Outcome) : Type 0 where
  pub problem : Problem
  pub partition : List ℕ
  pub count : ℕ
  pub told : o ≡ done (group_lines problem partition count)
  pub same : named ≡ map (names_in problem partition) (range_with_len 0 count)

-- A text that gives `yes` under `verify F N` names the groups that `groups F N` prints.
abbrev pub WhatIsVerifiedNamesTheGroups : Type 0
WhatIsVerifiedNamesTheGroups = (contents : Contents) (F T text certificate : List ℕ) (N : ℕ) → IsShort N → contents F ≡ Some text
    → contents T ≡ Some certificate → IsOutcome (verify F N T) contents (done (codes "yes\n"))
    → (grouped : Outcome) → IsOutcome (groups F N) contents grouped → PrintsGroups (named_groups certificate) grouped
