use Rattle.std.proofs.Common.{take}
use Rattle.std.specs.Prelude.{bytes_eq}
use Rattle.std.specs.List.{list_any}
use Rattle.cfg_ast.specs.declared.policy.PrefixList.{PrefixList}
use Rattle.cfg_check.specs.NameSets.{HasNames}
use Rattle.cfg_check.proofs.name_sets.prefix_list_names.Given as goal

abbrev pub invariant-loop-list : goal.invariant-loop-list
invariant-loop-list l = HasNames l.names (λ q. list_any (λ (x : PrefixList). bytes_eq q x.name) (take l.list-index l.lists))
