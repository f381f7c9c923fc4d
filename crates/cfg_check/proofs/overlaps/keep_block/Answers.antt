use Rattle.std.proofs.Common.{◌≤◌, true, subst, arith}
use Rattle.std.specs.HashSet.{Updates}
use Rattle.base_kit.specs.Pairs.{same_pair}
use Rattle.cfg_check.proofs.BlockLemmas.{block_added}
use Rattle.cfg_check.proofs.overlaps.keep_block.Goals as goal

pub returns : goal.returns
returns c =
    let within : c.args.len ≤ c.args.address.len = omega (arith, c.if-len-from.false, c.from.ensures, c.len.ensures.value) in
    block_added c.args.around.now c.insert.new.self c.args.len c.args.address within
    (subst (λ b. Updates same_pair c.args.around.now c.insert.new.self (c.args.len, b) true) c.block.ensures c.in_ok-insert.ensures.updates)
