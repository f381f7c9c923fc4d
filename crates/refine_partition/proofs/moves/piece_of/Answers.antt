use Rattle.std.proofs.Common.{rules, inr}
use Rattle.refine_partition.proofs.moves.piece_of.Goals as goal

pub returns : goal.returns
returns c = inr (record {
  none = search rules;
  number_is = search rules;
  named = c.in_ok-name_class.ensures;
  list = (c.new.result, c.new.ensures.items, c.in_ok-push.ensures.items);
  origins_are = c.in_ok-push-2.ensures.items;
})
