use Rattle.std.proofs.Common.{◌≡◌, ◌++◌, drop, string_bytes, map}
use Rattle.cfg_ast.specs.printing.Printed.{lines_text, network_line}
use Rattle.cfg_print.proofs.bgp.put_networks.Given as goal

abbrev pub invariant-loop-net : goal.invariant-loop-net
invariant-loop-net l = string_bytes l.text ++ lines_text (map network_line (drop l.net-index l.items)) ≡ string_bytes l.fn.text
    ++ lines_text (map network_line l.items)
