use Rattle.std.proofs.Common.{◌≡◌, ◌+◌, ◌-◌, ◌*◌, cond, nat_eq, length}
use Rattle.cut_certificate.specs.Blocks.{first_blocks}
use Rattle.cut_certificate.specs.Certificates.{AreAfter}
use Rattle.cut_certificate.specs.InUse.{AreInUse}
use Rattle.cut_certificate.specs.Uneven.{AreLeaders}
use Rattle.cut_certificate.proofs.certifying.refined.Given as goal

-- the splits so far lead to the blocks
abbrev pub invariant-splitting : goal.invariant-splitting
invariant-splitting l = record {
  after : AreAfter l.graph (first_blocks l.graph) l.splits l.blocks;
  total : length l.blocks.numbers ≡ l.graph.count;
  counted : l.count ≡ l.blocks.count;
  in_use : AreInUse l.blocks.numbers l.blocks.count;
  few : length l.splits + (first_blocks l.graph).count ≡ l.count;
  led : AreLeaders l.blocks.numbers l.leaders.items;
  many : length l.leaders.items ≡ l.count;
}

-- each split makes one block more, and the routers are gone over again once behind it
abbrev pub decreases-splitting : goal.decreases-splitting
decreases-splitting l = 2 * (l.graph.count - l.count) + cond (nat_eq l.from 0) 0 1
