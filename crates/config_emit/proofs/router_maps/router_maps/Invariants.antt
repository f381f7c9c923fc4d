use Rattle.std.proofs.Common.{◌≡◌, [], map, drop, flat_map}
use Rattle.config_emit.specs.MapNumbers.{maps_now}
use Rattle.config_emit.specs.RouterMaps.{use_now, with_uses, uses_on, AreUses}
use Rattle.config_emit.proofs.router_maps.router_maps.Given as goal

abbrev pub invariant-loop-link : goal.invariant-loop-link
invariant-loop-link l = record {
  places : AreUses l.found.places (map use_now l.found.uses.items);
  uses : with_uses (flat_map (uses_on (maps_now l.policies.maps.items) l.policies.acts.now l.group) (drop l.link-index l.links))
      (map use_now l.found.uses.items)
      ≡ with_uses (flat_map (uses_on (maps_now l.policies.maps.items) l.policies.acts.now l.group) l.links) [];
}
