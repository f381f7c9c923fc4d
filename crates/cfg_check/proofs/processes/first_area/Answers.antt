use Rattle.std.proofs.Common.{◌≡◌, ℕ, List, Option, Some, sym, ap, ◌∙◌}
use Rattle.std.specs.Option.{option_map}
use Rattle.std.specs.Prelude.{slice_get}
use Rattle.cfg_ast.specs.declared.ospf.AreaLine.{AreaLine}
use Rattle.cfg_ast.specs.meaning.RouterFaults.{areas_of}
use Rattle.std.specs.Option.{is_some}
use Rattle.cfg_check.proofs.FirstFound.{first_found}
use Rattle.cfg_check.proofs.processes.first_area.Goals as goal

pub returns-in-Some : goal.returns-in-Some
returns-in-Some c =
    let here : slice_get (areas_of c.router-item.result) 0 ≡ Some c.in-Some.line.now = ap (λ (ls : List AreaLine). slice_get ls 0) (sym c.areas.ensures)
    ∙ sym c.in-Some.ensures.value in
    let area : Option AreaLine → Option ℕ = option_map (λ (l : AreaLine). l.area) in
    sym (first_found (λ (l : AreaLine). l.area) areas_of c.args.routers.now c.loop-router.router-index c.router-item.result c.loop-router-test.true
    c.router-item.is c.loop-router.invariant (ap (λ o. is_some (area o)) here) ∙ ap area here)
