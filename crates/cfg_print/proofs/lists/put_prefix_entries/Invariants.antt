use Rattle.std.proofs.Common.{◌≡◌, ◌++◌, drop, string_bytes, map, flat_map}
use Rattle.cfg_ast.specs.declared.policy.PrefixList.{PrefixList}
use Rattle.cfg_ast.specs.printing.Printed.{lines_text, prefix_entry_line}
use Rattle.cfg_print.proofs.lists.put_prefix_entries.Given as goal

abbrev pub invariant-loop-list : goal.invariant-loop-list
invariant-loop-list l = string_bytes l.text
    ++ lines_text (flat_map (λ (x : PrefixList). map (prefix_entry_line x.name) x.entries) (drop l.list-index l.lists)) ≡ string_bytes l.fn.text
    ++ lines_text (flat_map (λ (x : PrefixList). map (prefix_entry_line x.name) x.entries) l.lists)
