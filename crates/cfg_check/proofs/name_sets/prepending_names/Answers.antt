use Rattle.std.proofs.Common.{◌&&◌}
use Rattle.std.specs.Prelude.{bytes_eq}
use Rattle.cfg_ast.specs.declared.policy.RouteMap.{RouteMap}
use Rattle.cfg_ast.specs.meaning.PolicyFaults.{prepends_in_map}
use Rattle.cfg_check.proofs.NameTurns.{has_turn}
use Rattle.cfg_check.proofs.name_sets.prepending_names.Goals as goal

pub loop-map-preserved : goal.loop-map-preserved
loop-map-preserved c = has_turn (λ (map : RouteMap) q. prepends_in_map map && bytes_eq q map.name) c.args.maps.now c.loop-map.map-index c.map-item.result
    c.loop-map.names c.keep_if_prepending.new.names c.loop-map-test.true c.map-item.is c.loop-map.invariant c.in_ok-keep_if_prepending.ensures
