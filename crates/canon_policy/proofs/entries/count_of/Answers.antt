use Rattle.canon_policy.proofs.MadeLists.{pair_inside}
use Rattle.canon_policy.proofs.entries.count_of.Goals as goal

pub eval-requires : goal.eval-requires
eval-requires c = pair_inside c.args.store.now c.args.adds.now c.loop-case.case-index c.case-item.result c.loop-case-test.true c.case-item.is c.requires
