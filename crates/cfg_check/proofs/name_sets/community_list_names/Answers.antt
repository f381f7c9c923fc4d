use Rattle.cfg_ast.specs.declared.policy.CommunityList.{CommunityList}
use Rattle.cfg_check.proofs.Seen.{text_turn}
use Rattle.cfg_check.proofs.name_sets.community_list_names.Goals as goal

pub loop-list-preserved : goal.loop-list-preserved
loop-list-preserved c = record {
  each = text_turn (λ (x : CommunityList). x.name) c.args.lists.now c.loop-list.list-index c.list-item.result c.loop-list.names
      c.insert.new.self c.as_str.result.now c.loop-list-test.true c.list-item.is c.as_str.ensures c.in_ok-insert.ensures.adds c.loop-list.invariant.each;
}
