use Rattle.std.proofs.Common.{◌≡◌, take}
use Rattle.canon_policy.specs.Made.{deleted_in}
use Rattle.canon_policy.proofs.entries.deleted.Given as goal

abbrev pub invariant-loop-case : goal.invariant-loop-case
invariant-loop-case l = l.deleted.items ≡ deleted_in l.store l.fixing (take l.case-index l.outs)
