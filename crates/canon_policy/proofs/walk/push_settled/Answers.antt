use Rattle.std.proofs.Common.{arith}
use Rattle.canon_policy.proofs.Walks.{long_over}
use Rattle.canon_policy.proofs.walk.push_settled.Goals as goal

pub returns-then-len-ge-MOST_ENTRIES : goal.returns-then-len-ge-MOST_ENTRIES
returns-then-len-ge-MOST_ENTRIES c = let size = c.len.ensures in long_over c.args.found.now c.args.fixing (omega arith)
