use Rattle.std.proofs.Common.{◌≡◌, ◌++◌, take, flat_map}
use Rattle.cfg_ast.specs.meaning.PolicyFaults.{mentions_in_list}
use Rattle.cfg_check.proofs.communities.push_in_lists.Given as goal

abbrev pub invariant-loop-list : goal.invariant-loop-list
invariant-loop-list l = l.found.items ≡ l.initial.found.items ++ flat_map mentions_in_list (take l.list-index l.lists)
