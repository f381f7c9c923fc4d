use Rattle.std.proofs.Common.{List, flat_map, ap}
use Rattle.cfg_ast.specs.declared.policy.CommunityLine.{CommunityLine}
use Rattle.cfg_ast.specs.meaning.PolicyFaults.{mentions_on, mentions_in_list}
use Rattle.cfg_check.proofs.Turns.{flat_onto}
use Rattle.cfg_check.proofs.communities.push_in_lists.Goals as goal

pub loop-list-preserved : goal.loop-list-preserved
loop-list-preserved c = flat_onto mentions_in_list c.args.found.now.items c.args.lists.now c.loop-list.list-index c.list-item.result c.loop-list.found.items
    c.push_in_lines.new.found.items (flat_map mentions_on c.as_slice.result.now) c.loop-list-test.true c.list-item.is c.loop-list.invariant
    (ap (λ (lines : List CommunityLine). flat_map mentions_on lines) c.as_slice.ensures) c.in_ok-push_in_lines.ensures
