use Rattle.std.proofs.Common.{◌++◌, ◌∷◌, [], codes, append-nil, string_bytes}
use Rattle.std.specs.Fmt.{decimal}
use Rattle.cfg_ast.specs.printing.Printed.{line, line_text}
use Rattle.cfg_print.proofs.Grown.{written}
use Rattle.cfg_print.proofs.ospf.put_head.Goals as goal

pub returns : goal.returns
returns c =
    let head = line_text (line 0 (codes "router" ∷ codes "ospf" ∷ decimal c.args.number ∷ [])) in
    written c.put_numbered_line.result (string_bytes c.args.text.now) head (string_bytes c.put_numbered_line.new.text) (head ++ [])
    c.put_numbered_line.ensures (append-nil head)
