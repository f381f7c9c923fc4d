use Rattle.cfg_check.proofs.BlockLemmas.{around_turn}
use Rattle.cfg_check.proofs.overlaps.keep_around.Goals as goal

pub loop-len-preserved : goal.loop-len-preserved
loop-len-preserved c = around_turn c.args.around.now c.loop-len.around c.keep_block.new.around c.args.address c.args.lens.now c.loop-len.len-index
    c.loop-len-test.true c.in_ok-keep_block.ensures c.loop-len.invariant
