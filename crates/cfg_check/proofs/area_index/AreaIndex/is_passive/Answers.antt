use Rattle.std.proofs.Common.{◌≡◌, true, false, Option, Some, sym, ap, ◌∙◌}
use Rattle.std.specs.Prelude.{bytes_eq}
use Rattle.std.specs.List.{list_any}
use Rattle.cfg_ast.specs.declared.ospf.OspfProcess.{OspfProcess}
use Rattle.cfg_ast.specs.meaning.Topology.{is_passive_in}
use Rattle.cfg_check.specs.AreaLines.{listed_of}
use Rattle.cfg_check.proofs.AreaLookups.{passive_by}
use Rattle.cfg_check.proofs.area_index.AreaIndex.is_passive.Goals as goal

pub returns-then-process : goal.returns-then-process
returns-then-process c =
    let name = c.args.name.now in
    let process = c.in-Some.process in
    let listed : c.is_listed-is_listed.result ≡ list_any (bytes_eq name) (listed_of (Some process)) = c.is_listed-is_listed.ensures
    ∙ ap (λ (o : Option OspfProcess). list_any (bytes_eq name) (listed_of o)) c.in-Some.is in
    sym (ap (λ (o : Option OspfProcess). is_passive_in o name) c.in-Some.is
    ∙ passive_by process name true c.is_listed-is_listed.result c.if-process.true listed)

pub returns-else-process : goal.returns-else-process
returns-else-process c =
    let name = c.args.name.now in
    let process = c.in-Some.process in
    let listed : c.is_listed-is_listed.result ≡ list_any (bytes_eq name) (listed_of (Some process)) = c.is_listed-is_listed.ensures
    ∙ ap (λ (o : Option OspfProcess). list_any (bytes_eq name) (listed_of o)) c.in-Some.is in
    sym (ap (λ (o : Option OspfProcess). is_passive_in o name) c.in-Some.is
    ∙ passive_by process name false c.is_listed-is_listed.result c.if-process.false listed)
