use Rattle.std.proofs.Common.{◌≡◌, ◌++◌, take, flat_map}
use Rattle.cfg_ast.specs.meaning.PolicyFaults.{mentions_in}
use Rattle.cfg_check.proofs.communities.push_in_entries.Given as goal

abbrev pub invariant-loop-entry : goal.invariant-loop-entry
invariant-loop-entry l = l.found.items ≡ l.initial.found.items ++ flat_map mentions_in (take l.entry-index l.entries)
