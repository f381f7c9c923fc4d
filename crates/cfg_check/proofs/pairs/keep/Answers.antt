use Rattle.std.proofs.Common.{subst}
use Rattle.buckets.specs.Buckets.{PushesAt}
use Rattle.buckets.proofs.PushedItems.{bucket_turn}
use Rattle.cfg_check.specs.Pairs.{subnet_pair}
use Rattle.cfg_check.proofs.pairs.keep.Goals as goal

pub loop-address-preserved : goal.loop-address-preserved
loop-address-preserved c = λ pair.
    bucket_turn subnet_pair c.args.seen.now c.loop-address.seen c.push_at.new.index c.args.addresses.now c.loop-address.address-index c.address-item.result pair
    c.loop-address-test.true c.address-item.is
    (subst (λ at. PushesAt c.loop-address.seen c.push_at.new.index at c.address-item.result) c.subnet_pair.ensures c.in_ok-push_at.ensures)
    (c.loop-address.invariant pair)
