use Rattle.std.proofs.Common.{◌≡◌, ℕ, ◌&&◌, ◌||◌, take}
use Rattle.std.specs.HashSet.{contains}
use Rattle.base_kit.specs.Sets.{has}
use Rattle.base_kit.specs.Pairs.{same_pair}
use Rattle.cfg_check.specs.Blocks.{is_around}
use Rattle.cfg_check.proofs.overlaps.keep_around.Given as goal

abbrev pub invariant-loop-len : goal.invariant-loop-len
invariant-loop-len l = (len number : ℕ) →
    contains same_pair l.around (len, number) ≡ ((has (take l.len-index l.lens) len && is_around len number l.address)
    || contains same_pair l.initial.around (len, number))
