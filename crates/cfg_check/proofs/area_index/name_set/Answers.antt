use Rattle.std.proofs.Common.{ℕ, List}
use Rattle.cfg_check.proofs.Seen.{text_turn}
use Rattle.cfg_check.proofs.area_index.name_set.Goals as goal

pub loop-text-preserved : goal.loop-text-preserved
loop-text-preserved c = record {
  each = text_turn (λ (x : List ℕ). x) c.args.texts.now c.loop-text.text-index c.text-item.result c.loop-text.names
      c.insert.new.self c.as_str.result.now c.loop-text-test.true c.text-item.is c.as_str.ensures c.in_ok-insert.ensures.adds c.loop-text.invariant.each;
}
