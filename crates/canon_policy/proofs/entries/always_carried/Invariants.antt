use Rattle.std.proofs.Common.{◌≡◌, take}
use Rattle.canon_policy.specs.Made.{carried_in}
use Rattle.canon_policy.proofs.entries.always_carried.Given as goal

abbrev pub invariant-loop-case : goal.invariant-loop-case
invariant-loop-case l = l.carried.items ≡ carried_in l.store l.present (take l.case-index l.outs)
