use Rattle.std.proofs.Common.{List, Bor, ap, map, ◌∙◌}
use Rattle.cfg_ast.specs.declared.policy.PrefixList.{PrefixList}
use Rattle.dest_classes.specs.Lists.{different, lists_asked}
use Rattle.dest_classes.proofs.lists.lists_asked.Goals as goal

pub returns : goal.returns
unfolding lists_asked
returns c = c.in_ok-asked.ensures ∙ ap (λ (ls : List (Bor PrefixList)). different (map (λ (list : Bor PrefixList). list.now) ls)) c.as_slice.ensures.value
    ∙ ap different c.in_ok-lists.ensures
