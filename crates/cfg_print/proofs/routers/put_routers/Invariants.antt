use Rattle.std.proofs.Common.{◌≡◌, ◌++◌, drop, string_bytes}
use Rattle.cfg_ast.specs.printing.Printed.{lines_text, routers_lines}
use Rattle.cfg_print.proofs.routers.put_routers.Given as goal

abbrev pub invariant-loop-place : goal.invariant-loop-place
invariant-loop-place l = string_bytes l.text ++ lines_text (routers_lines (drop l.place l.routers) (drop l.place l.members)) ≡ string_bytes l.fn.text
    ++ lines_text (routers_lines l.routers l.members)
