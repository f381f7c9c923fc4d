use Rattle.std.proofs.Common.{sym, ap, ◌∙◌}
use Rattle.cfg_ast.specs.meaning.RouterFaults.{protocol_lines_of}
use Rattle.std.specs.Option.{is_some}
use Rattle.cfg_ast.specs.meaning.RouterFaults.{ProtocolLine}
use Rattle.cfg_check.proofs.FirstFound.{first_found}
use Rattle.cfg_check.proofs.processes.first_protocol.Goals as goal

pub returns-then-is_some : goal.returns-then-is_some
returns-then-is_some c =
    let is = c.first_protocol_of-protocol.ensures in
    is ∙ sym (first_found (λ (l : ProtocolLine). l.protocol) protocol_lines_of c.args.routers.now c.loop-router.router-index c.router-item.result
    c.loop-router-test.true c.router-item.is c.loop-router.invariant (ap is_some (sym is) ∙ sym c.is_some.ensures ∙ c.if-is_some.true))
