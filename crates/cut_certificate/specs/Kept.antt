-- What is kept of groups while a certificate is read.
use Rattle.std.specs.Prelude.{◌≡◌, ℕ, List}
use Rattle.cut_certificate.specs.declared.standing.Stage.{Stage}
use Rattle.cut_certificate.specs.declared.standing.Stage.TheVariants.{Naming, Closed}
use Rattle.cut_certificate.specs.Blocks.{groups_of}

-- from the first group on, the groups of the blocks
abbrev pub AreGroupsKept : List ℕ → List (List ℕ) → Stage → Type 0
AreGroupsKept numbers groups Naming = groups ≡ groups_of numbers
AreGroupsKept numbers groups Closed = groups ≡ groups_of numbers
AreGroupsKept numbers groups stage = Unit {0}
