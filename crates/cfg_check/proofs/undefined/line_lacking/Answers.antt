use Rattle.std.proofs.Common.{true, false, not, sym, ap}
use Rattle.cfg_check.specs.NameSets.{lacks_name}
use Rattle.cfg_check.proofs.NamedLines.{found, named_line}
use Rattle.cfg_check.proofs.undefined.line_lacking.Goals as goal

pub returns-then-contains : goal.returns-then-contains
returns-then-contains c =
    let names = c.args.names.now in
    let named = c.in-Some.named in
    sym (named_line (lacks_name names) c.args.named.now named false c.in-Some.is
    (ap not (found names c.as_str.result.now named.name c.contains.result true c.contains.ensures c.as_str.ensures c.if-contains.true)))

pub returns : goal.returns
returns c =
    let names = c.args.names.now in
    let named = c.in-Some.named in
    sym (named_line (lacks_name names) c.args.named.now named true c.in-Some.is
    (ap not (found names c.as_str.result.now named.name c.contains.result false c.contains.ensures c.as_str.ensures c.if-contains.false)))
