use Rattle.std.proofs.Common.{◌≡◌, length}
use Rattle.canon_policy.specs.Canonical.{without_last_denies}
use Rattle.canon_policy.proofs.canonical.without_last_denies.Given as goal

abbrev pub invariant-loop-entries : goal.invariant-loop-entries
invariant-loop-entries l = without_last_denies l.entries ≡ without_last_denies l.initial.entries

abbrev pub decreases-loop-entries : goal.decreases-loop-entries
decreases-loop-entries l = length l.entries
