use Rattle.std.proofs.Common.{codes, string_bytes}
use Rattle.cfg_print.proofs.Grown.{written}
use Rattle.cfg_ast.specs.declared.policy.Change.TheVariants.{Clear}
use Rattle.cfg_ast.specs.printing.Printed.{line_text, change_line}
use Rattle.cfg_print.proofs.Joined.{clear_text}
use Rattle.cfg_print.proofs.route_maps.put_clear.Goals as goal

pub returns : goal.returns
returns c = written c.put.result (string_bytes c.args.text.now) (codes " set community none\n") (string_bytes c.put.new.text) (line_text (change_line Clear))
    c.put.ensures clear_text
