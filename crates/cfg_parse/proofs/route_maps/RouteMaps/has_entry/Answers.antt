use Rattle.std.proofs.Common.{ap, ◌∙◌}
use Rattle.cfg_ast.specs.text.PolicyLines.{has_map_entry}
use Rattle.cfg_parse.proofs.UnderNames.{has_map}
use Rattle.cfg_parse.proofs.route_maps.RouteMaps.has_entry.Goals as goal

pub returns : goal.returns
returns c = c.has_entry.ensures ∙ has_map c.self.inside.maps c.args.name.now c.args.seq ∙ ap (λ ls. has_map_entry ls c.args.name.now c.args.seq) c.self.view_is
