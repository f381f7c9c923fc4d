use Rattle.std.proofs.Common.{◌≡◌, drop}
use Rattle.canon_policy.specs.Made.{count_in}
use Rattle.canon_policy.proofs.entries.count_of.Given as goal

abbrev pub invariant-loop-case : goal.invariant-loop-case
invariant-loop-case l = count_in l.store l.present (drop l.case-index l.adds) ≡ count_in l.store l.present l.adds
