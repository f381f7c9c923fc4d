use Rattle.std.proofs.Common.{◌≡◌, ℕ, Bool, not, List, flat_map, ap, ◌∙◌}
use Rattle.std.specs.Prelude.{bytes_eq}
use Rattle.std.specs.List.{list_any}
use Rattle.cfg_ast.specs.declared.bgp.Neighbor.{Neighbor}
use Rattle.cfg_ast.specs.declared.policy.RouteMap.{RouteMap}
use Rattle.cfg_ast.specs.meaning.PolicyFaults.{lacks_map, map_lines_naming}
use Rattle.cfg_check.specs.LeastLine.{least_line}
use Rattle.cfg_check.specs.NameSets.{lacks_name}
use Rattle.cfg_check.proofs.NameTurns.{lacks_is}
use Rattle.cfg_check.proofs.undefined.undefined_maps_of.Goals as goal

pub returns : goal.returns
returns c =
    let router = c.args.router.now in
    let names = c.in_ok-names.names in
    let named : List RouteMap → List ℕ → Bool = λ maps q. list_any (λ (map : RouteMap). bytes_eq q map.name) maps in
    let unnamed : List RouteMap → List ℕ → Bool = λ maps q. not (named maps q) in
    let lacks : lacks_name names ≡ lacks_map router =
    lacks_is names (named c.as_slice.result.now) c.in_ok-names.ensures ∙ ap unnamed c.as_slice.ensures in
    c.undefined_maps_in.ensures
    ∙ ap (λ (test : List ℕ → Bool). least_line (flat_map (map_lines_naming test) c.neighbors.result.now)) lacks
    ∙ ap (λ (ns : List Neighbor). least_line (flat_map (map_lines_naming (lacks_map router)) ns)) c.neighbors.ensures
