use Rattle.config_emit.specs.MapNumbers.{maps_now}
use Rattle.config_emit.proofs.Known.{import_known}
use Rattle.config_emit.proofs.act_maps.import_maps.Goals as goal

pub returns-clause-maps : goal.returns-clause-maps
returns-clause-maps c =
    let mid = maps_now c.map_number.new.known.maps.items in
    let new = maps_now c.map_number-2.new.known.maps.items in
    import_known c.args.out.now c.args.into.now c.args.sends mid new c.in_ok-into.into c.in_ok-out.out c.in_ok-into.ensures.has c.in_ok-out.ensures.grown
    c.in_ok-out.ensures.has c.in_ok-into.ensures.number c.in_ok-out.ensures.number
