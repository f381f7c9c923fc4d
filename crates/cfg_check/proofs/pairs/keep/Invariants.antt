use Rattle.std.proofs.Common.{◌≡◌, ◌++◌, take, filter, ℕ}
use Rattle.buckets.specs.Buckets.{bucket, is_at_pair}
use Rattle.cfg_check.specs.Pairs.{subnet_pair}
use Rattle.cfg_check.proofs.pairs.keep.Given as goal

abbrev pub invariant-loop-address : goal.invariant-loop-address
invariant-loop-address l = (pair : ℕ × ℕ) → bucket l.seen pair ≡ bucket l.initial.seen pair
    ++ filter (is_at_pair subnet_pair pair) (take l.address-index l.addresses)
