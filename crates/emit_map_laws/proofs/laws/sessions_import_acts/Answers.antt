use Rattle.std.proofs.Common.{◌≡◌, ℕ, subst, sym}
use Rattle.base_kit.proofs.Elements.{in_contains}
use Rattle.route_maps.specs.Sessions.{session_import}
use Rattle.config_emit.specs.Emitted.{emitted_router, neighbor_at}
use Rattle.config_emit.specs.Plan.{act_into}
use Rattle.emit_form_laws.proofs.Groups.{end_of}
use Rattle.emit_map_laws.specs.Laws.{imported_by}
use Rattle.emit_map_laws.proofs.Imports.{session}
use Rattle.emit_map_laws.proofs.Routers.{well_formed_router}
use Rattle.emit_map_laws.proofs.laws.sessions_import_acts.Goals as goal

pub returns : goal.returns
returns c = λ e plan bgp p g t l has touched comms. (
    let at = in_contains e.links l has in
    let law = c.quotient_carries.ensures in
    let end = end_of e plan law g l at touched in
    let well = (c.emitted_can_be_printed.ensures e plan).well_formed in
    let imports = session e plan law (c.few_links.ensures e plan) bgp p g end.0 l at touched end.1 (c.session_imports.ensures p)
    (well_formed_router e well end.0 end.1.there) (well_formed_router e well g end.1.here) t comms in
    subst (λ (h : ℕ). session_import p (emitted_router e h) (neighbor_at e h (t, l)) (emitted_router e g) (neighbor_at e g (t, l)) comms
    ≡ imported_by (act_into e g l) comms) (sym end.1.other) imports)
