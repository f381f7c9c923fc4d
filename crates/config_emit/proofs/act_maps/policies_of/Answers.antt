use Rattle.std.proofs.Common.{◌≡◌, ◌∙◌, true, ap, subst}
use Rattle.std.specs.List.{list_any}
use Rattle.route_maps.specs.Same.{same_map}
use Rattle.config_emit.specs.MapNumbers.{maps_now, place_of_map}
use Rattle.config_emit.proofs.Known.{any_with}
use Rattle.config_emit.proofs.act_maps.policies_of.Goals as goal

pub maps_of_acts-requires-clause-closed : goal.maps_of_acts-requires-clause-closed
maps_of_acts-requires-clause-closed c =
    let maps = maps_now c.number_map.new.known.maps.items in
    record {
      any = subst (λ m. list_any (same_map m) maps ≡ true) c.requires
          (any_with c.args.closed.now (maps_now c.new.result.items) maps c.in_ok-closed_number.ensures.maps);
      is = c.in_ok-closed_number.ensures.number ∙ ap (place_of_map maps) c.requires;
    }
