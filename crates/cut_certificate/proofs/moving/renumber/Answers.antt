use Rattle.std.proofs.Common.{get_or}
use Rattle.std.proofs.lemmas.List.{take_more}
use Rattle.cut_certificate.proofs.Movers.{renumbered_more}
use Rattle.cut_certificate.proofs.moving.renumber.Goals as goal

pub loop-router-preserved : goal.loop-router-preserved
loop-router-preserved c =
    let k = c.loop-router.router-index in
    rw (take_more c.args.movers.now k 0 c.loop-router-test.true)
    (renumbered_more _ _ _ (get_or c.args.movers.now k 0) _ c.loop-router.invariant (c.requires.known k 0 c.loop-router-test.true))
