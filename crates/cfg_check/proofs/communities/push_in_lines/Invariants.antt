use Rattle.std.proofs.Common.{◌≡◌, ◌++◌, take, flat_map}
use Rattle.cfg_ast.specs.meaning.PolicyFaults.{mentions_on}
use Rattle.cfg_check.proofs.communities.push_in_lines.Given as goal

abbrev pub invariant-loop-line : goal.invariant-loop-line
invariant-loop-line l = l.found.items ≡ l.initial.found.items ++ flat_map mentions_on (take l.line-index l.lines)
