use Rattle.std.proofs.Common.{List, flat_map, ap}
use Rattle.cfg_ast.specs.declared.policy.MapEntry.{MapEntry}
use Rattle.cfg_ast.specs.meaning.PolicyFaults.{mentions_in, mentions_in_map}
use Rattle.cfg_check.proofs.Turns.{flat_onto}
use Rattle.cfg_check.proofs.communities.push_in_maps.Goals as goal

pub loop-map-preserved : goal.loop-map-preserved
loop-map-preserved c = flat_onto mentions_in_map c.args.found.now.items c.args.maps.now c.loop-map.map-index c.map-item.result c.loop-map.found.items
    c.push_in_entries.new.found.items (flat_map mentions_in c.as_slice.result.now) c.loop-map-test.true c.map-item.is c.loop-map.invariant
    (ap (λ (entries : List MapEntry). flat_map mentions_in entries) c.as_slice.ensures) c.in_ok-push_in_entries.ensures
