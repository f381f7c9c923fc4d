use Rattle.canon_policy.proofs.MadeLists.{pair_inside}
use Rattle.canon_policy.proofs.entries.preference_of.Goals as goal

pub eval-there-requires : goal.eval-there-requires
eval-there-requires c = pair_inside c.args.store.now c.args.lps.now c.loop-case.case-index c.case-item.result c.loop-case-test.true c.case-item.is c.requires
