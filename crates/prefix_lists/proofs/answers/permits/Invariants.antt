use Rattle.std.proofs.Common.{◌≡◌, drop}
use Rattle.cfg_ast.specs.meaning.PrefixLists.{first_entry_decides}
use Rattle.prefix_lists.proofs.answers.permits.Given as goal

abbrev pub invariant-loop-entry : goal.invariant-loop-entry
invariant-loop-entry l = first_entry_decides (drop l.entry-index l.list.entries) l.p ≡ first_entry_decides l.list.entries l.p
