use Rattle.std.proofs.Common.{◌≡◌, true, ap, ◌∙◌, subst}
use Rattle.std.specs.HashSet.{Updates}
use Rattle.base_kit.specs.Pairs.{same_pair}
use Rattle.cfg_check.specs.Blocks.{block_of}
use Rattle.cfg_check.proofs.BlockLemmas.{pair_added}
use Rattle.cfg_check.proofs.overlaps.keep_subnet.Goals as goal

pub returns : goal.returns
returns c =
    let is_len : c.from-len.result ≡ c.args.address.len = c.from-len.ensures ∙ c.len.ensures.value in
    let at_len = subst (λ n. Updates same_pair c.args.subnets.now c.insert.new.self (n, c.block.result) true) is_len c.in_ok-insert.ensures.updates in
    let step = subst (λ b. Updates same_pair c.args.subnets.now c.insert.new.self (c.args.address.len, b) true)
    (c.block.ensures ∙ ap (λ n. block_of n c.args.address) is_len) at_len in
    record { each = pair_added c.args.subnets.now c.insert.new.self c.args.address.len (block_of c.args.address.len c.args.address) step }
