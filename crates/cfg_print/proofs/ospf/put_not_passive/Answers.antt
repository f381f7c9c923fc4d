use Rattle.std.proofs.Common.{string_bytes}
use Rattle.cfg_ast.specs.printing.Printed.{not_passive_line}
use Rattle.cfg_print.proofs.Grown.{item_grown}
use Rattle.cfg_print.proofs.ospf.put_not_passive.Goals as goal

pub loop-name-preserved : goal.loop-name-preserved
loop-name-preserved c =
    item_grown not_passive_line c.as_slice-items.result.now c.loop-name.name-index c.name-item.result (string_bytes c.loop-name.text)
    (string_bytes c.put_not_passive_line.new.text) _ c.loop-name-test.true c.name-item.is c.loop-name.invariant c.in_ok-put_not_passive_line.ensures
