use Rattle.std.proofs.Common.{arith}
use Rattle.fat_gen.proofs.PortSteps.{grown_at, grown_none}
use Rattle.fat_gen.proofs.ports.push_port.Goals as goal

pub returns-in_ok-push : goal.returns-in_ok-push
returns-in_ok-push c = grown_at c.args.table.now.items c.args.end c.args.port _ _ (omega arith) c.index_mut.ensures.value c.in_ok-push.ensures.items

pub returns-else-place-len : goal.returns-else-place-len
returns-else-place-len c = grown_none c.args.table.now.items c.args.end c.args.port (omega arith)
