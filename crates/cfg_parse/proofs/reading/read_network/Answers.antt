use Rattle.std.proofs.Common.{Ok, sym, ap, ◌∙◌}
use Rattle.std.proofs.lemmas.Result.{err_from_is_err_and}
use Rattle.cfg_ast.specs.declared.network.Network.{Network}
use Rattle.cfg_ast.specs.text.Reading.{State}
use Rattle.cfg_parse.proofs.Rest.{text_refuses, text_read}
use Rattle.cfg_parse.proofs.reading.read_network.Goals as goal

pub returns-in_err-routers : goal.returns-in_err-routers
returns-in_err-routers c =
    let p = err_from_is_err_and c.from_residual-in_err-routers.result c.from_residual-in_err-routers.ensures.1 in
    rw (p.1, p.2) (text_refuses c.args.bytes.now c.in_err-routers.field-0.0 c.in_err-routers.ensures)

pub returns : goal.returns
returns c = text_read c.args.bytes.now c.in_ok-routers.field-0 c.in_ok-routers.ensures
    ∙ ap (λ (s : State). let n : Network = record { routers = s.routers } in Ok n) (sym c.routers.view_is)
