use Rattle.std.proofs.Common.{List, ◌||◌, ap, ◌∙◌}
use Rattle.std.specs.List.{list_any}
use Rattle.cfg_ast.specs.declared.policy.MapEntry.{MapEntry}
use Rattle.cfg_ast.specs.declared.policy.RouteMap.{RouteMap}
use Rattle.cfg_ast.specs.meaning.PolicyFaults.{is_name, is_deleted_in}
use Rattle.numbered_names.specs.NameSets.{has_name}
use Rattle.cfg_check.proofs.NameTurns.{has_turn}
use Rattle.cfg_check.proofs.name_sets.deleted_names.Goals as goal

pub loop-map-preserved : goal.loop-map-preserved
loop-map-preserved c = has_turn (λ (map : RouteMap) q. is_deleted_in q map) c.args.maps.now c.loop-map.map-index c.map-item.result c.loop-map.names
    c.keep_deletions.new.names c.loop-map-test.true c.map-item.is c.loop-map.invariant
    (record {
      each = λ q. c.in_ok-keep_deletions.ensures.each q
          ∙ ap (λ (entries : List MapEntry). list_any (λ (entry : MapEntry). is_name q entry.delete) entries || has_name c.loop-map.names q) c.as_slice.ensures;
    })
