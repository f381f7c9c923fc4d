use Rattle.std.proofs.Common.{map, ap, ◌∙◌}
use Rattle.std.proofs.lemmas.Result.{on_ok_weaker}
use Rattle.cfg_ast.specs.text.PolicyLines.{with_map_entry}
use Rattle.cfg_parse.specs.NamedLists.{route_map_of}
use Rattle.cfg_parse.proofs.UnderNames.{with_map}
use Rattle.cfg_parse.proofs.route_maps.RouteMaps.add.Goals as goal

pub returns : goal.returns
returns c = on_ok_weaker c.add.result (λ is. ap (map route_map_of) is ∙ with_map c.args.name c.args.entry c.self.inside.maps
    ∙ ap (with_map_entry c.args.name c.args.entry) c.self.view_is) c.add.ensures.ok
