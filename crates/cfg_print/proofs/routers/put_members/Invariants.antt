use Rattle.std.proofs.Common.{◌≡◌, ◌++◌, drop, string_bytes, map}
use Rattle.cfg_ast.specs.printing.Printed.{lines_text, member_line}
use Rattle.cfg_print.proofs.routers.put_members.Given as goal

abbrev pub invariant-loop-member : goal.invariant-loop-member
invariant-loop-member l = string_bytes l.text ++ lines_text (map member_line (drop l.member-index l.members)) ≡ string_bytes l.fn.text
    ++ lines_text (map member_line l.members)
