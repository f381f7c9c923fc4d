use Rattle.std.proofs.Common.{true, false, sym}
use Rattle.numbered_names.specs.NameSets.{has_name}
use Rattle.cfg_check.proofs.NamedLines.{found, named_line}
use Rattle.cfg_check.proofs.prepends.line_having.Goals as goal

pub returns-then-not-contains : goal.returns-then-not-contains
returns-then-not-contains c =
    let names = c.args.names.now in
    let named = c.in-Some.named in
    sym (named_line (has_name names) c.args.named.now named false c.in-Some.is
    (found names c.as_str.result.now named.name c.contains.result false c.contains.ensures c.as_str.ensures c.if-not-contains.true))

pub returns : goal.returns
returns c =
    let names = c.args.names.now in
    let named = c.in-Some.named in
    sym (named_line (has_name names) c.args.named.now named true c.in-Some.is
    (found names c.as_str.result.now named.name c.contains.result true c.contains.ensures c.as_str.ensures c.if-not-contains.false))
