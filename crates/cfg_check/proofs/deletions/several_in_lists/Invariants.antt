use Rattle.std.proofs.Common.{◌≡◌, take, flat_map}
use Rattle.cfg_ast.specs.meaning.PolicyFaults.{several_in}
use Rattle.numbered_names.specs.NameSets.{has_name}
use Rattle.cfg_check.specs.LeastLine.{least_line}
use Rattle.cfg_check.proofs.deletions.several_in_lists.Given as goal

abbrev pub invariant-loop-list : goal.invariant-loop-list
invariant-loop-list l = l.least ≡ least_line (flat_map (several_in (has_name l.names)) (take l.list-index l.lists))
