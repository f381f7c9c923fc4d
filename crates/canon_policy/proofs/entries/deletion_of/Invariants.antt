use Rattle.std.proofs.Common.{◌≡◌, take, map}
use Rattle.canon_policy.specs.Entries.{alone}
use Rattle.canon_policy.proofs.entries.deletion_of.Given as goal

abbrev pub invariant-loop-community : goal.invariant-loop-community
invariant-loop-community l = l.lines ≡ map alone (take l.community-index l.comms)
