use Rattle.std.proofs.Common.{◌≡◌, ◌++◌, drop, string_bytes, map, flat_map}
use Rattle.cfg_ast.specs.declared.policy.CommunityList.{CommunityList}
use Rattle.cfg_ast.specs.printing.Printed.{lines_text, community_list_line}
use Rattle.cfg_print.proofs.lists.put_community_entries.Given as goal

abbrev pub invariant-loop-list : goal.invariant-loop-list
invariant-loop-list l = string_bytes l.text
    ++ lines_text (flat_map (λ (x : CommunityList). map (community_list_line x.name) x.lines) (drop l.list-index l.lists)) ≡ string_bytes l.fn.text
    ++ lines_text (flat_map (λ (x : CommunityList). map (community_list_line x.name) x.lines) l.lists)
