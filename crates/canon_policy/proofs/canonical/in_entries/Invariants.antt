use Rattle.std.proofs.Common.{◌≡◌, take}
use Rattle.canon_policy.specs.Canonical.{numbered_from}
use Rattle.canon_policy.specs.Made.{in_made}
use Rattle.canon_policy.proofs.canonical.in_entries.Given as goal

abbrev pub invariant-loop-place : goal.invariant-loop-place
invariant-loop-place l = l.entries ≡ numbered_from 1 (in_made l.store l.edge) (take l.place l.settled)
