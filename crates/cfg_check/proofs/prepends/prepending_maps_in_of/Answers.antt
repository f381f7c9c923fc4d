use Rattle.std.proofs.Common.{◌≡◌, ℕ, Bool, ◌&&◌, List, flat_map, ap, ◌∙◌}
use Rattle.std.specs.Prelude.{bytes_eq}
use Rattle.std.specs.List.{list_any}
use Rattle.cfg_ast.specs.declared.bgp.Neighbor.{Neighbor}
use Rattle.cfg_ast.specs.declared.policy.RouteMap.{RouteMap}
use Rattle.cfg_ast.specs.meaning.PolicyFaults.{prepends_in_map, has_prepending_map}
use Rattle.cfg_check.specs.Items.{map_in_naming}
use Rattle.cfg_check.specs.LeastLine.{least_line}
use Rattle.numbered_names.specs.NameSets.{has_name}
use Rattle.cfg_check.proofs.NameTurns.{has_is}
use Rattle.cfg_check.proofs.prepends.prepending_maps_in_of.Goals as goal

pub returns : goal.returns
returns c =
    let router = c.args.router.now in
    let names = c.in_ok-names.names in
    let prepending = λ (maps : List RouteMap) (q : List ℕ). list_any (λ (map : RouteMap). prepends_in_map map && bytes_eq q map.name) maps in
    let are : has_name names ≡ has_prepending_map router = has_is names (prepending c.as_slice.result.now) c.in_ok-names.ensures
    ∙ ap prepending c.as_slice.ensures in
    c.prepending_maps_in.ensures
    ∙ ap (λ (test : List ℕ → Bool). least_line (flat_map (map_in_naming test) c.neighbors.result.now)) are
    ∙ ap (λ (ns : List Neighbor). least_line (flat_map (map_in_naming (has_prepending_map router)) ns)) c.neighbors.ensures
