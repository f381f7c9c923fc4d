use Rattle.std.proofs.Common.{◌≡◌, take, flat_map}
use Rattle.cfg_ast.specs.meaning.PolicyFaults.{entry_lines_naming}
use Rattle.cfg_check.specs.NameSets.{lacks_name}
use Rattle.cfg_check.specs.LeastLine.{least_line}
use Rattle.cfg_check.proofs.undefined.undefined_lists_in_map.Given as goal

abbrev pub invariant-loop-entry : goal.invariant-loop-entry
invariant-loop-entry l = l.least ≡ least_line (flat_map (entry_lines_naming (lacks_name l.prefixes) (lacks_name l.comms)) (take l.entry-index l.entry-items))
