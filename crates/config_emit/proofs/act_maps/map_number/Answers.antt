use Rattle.config_emit.specs.MapNumbers.{maps_now}
use Rattle.config_emit.proofs.Known.{known_with}
use Rattle.config_emit.proofs.act_maps.map_number.Goals as goal

pub returns-clause-has : goal.returns-clause-has
returns-clause-has c = known_with c.args.plain.now (maps_now c.args.known.now.maps.items) (maps_now c.number_map.new.known.maps.items)
    c.in_ok-number.ensures.maps
