use Rattle.cfg_print.proofs.ospf.put_passive_line.Goals as goal

pub returns : goal.returns
returns c = rw c.as_str.ensures at c.put_named_line.ensures
