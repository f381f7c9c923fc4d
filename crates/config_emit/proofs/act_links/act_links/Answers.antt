use Rattle.std.proofs.Common.{◌∙◌, ap, map, subst}
use Rattle.std.specs.List.{enumerate_from}
use Rattle.config_emit.specs.ActLinks.{FillsSides, act_link_by}
use Rattle.config_emit.proofs.Sides.{act_links_are}
use Rattle.config_emit.proofs.act_links.act_links.Goals as goal

pub returns : goal.returns
returns c =
    let fills = subst (λ q. FillsSides q c.args.links.now c.in_ok-fill.fill) c.protocol.ensures c.in_ok-fill.ensures in
    c.in_ok-found.ensures
    ∙ ap (λ es. map (act_link_by c.in_ok-fill.fill es) (enumerate_from 0 c.args.links.now)) c.edges.ensures
    ∙ act_links_are c.args.srp.now.protocol c.args.srp.now.edges c.args.links.now c.in_ok-fill.fill fills
