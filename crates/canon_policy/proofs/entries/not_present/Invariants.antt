use Rattle.std.proofs.Common.{◌≡◌, take, filter}
use Rattle.canon_policy.specs.Made.{is_not_present}
use Rattle.canon_policy.proofs.entries.not_present.Given as goal

abbrev pub invariant-loop-community : goal.invariant-loop-community
invariant-loop-community l = l.more.items ≡ filter (is_not_present l.fixing) (take l.community-index l.comms)
