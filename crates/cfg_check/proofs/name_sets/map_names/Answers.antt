use Rattle.cfg_ast.specs.declared.policy.RouteMap.{RouteMap}
use Rattle.cfg_check.proofs.Seen.{text_turn}
use Rattle.cfg_check.proofs.name_sets.map_names.Goals as goal

pub loop-map-preserved : goal.loop-map-preserved
loop-map-preserved c = record {
  each = text_turn (λ (x : RouteMap). x.name) c.args.maps.now c.loop-map.map-index c.map-item.result c.loop-map.names
      c.insert.new.self c.as_str.result.now c.loop-map-test.true c.map-item.is c.as_str.ensures c.in_ok-insert.ensures.adds c.loop-map.invariant.each;
}
