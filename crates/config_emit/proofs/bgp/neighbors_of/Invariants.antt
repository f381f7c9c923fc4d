use Rattle.std.proofs.Common.{◌≡◌, ◌++◌, drop, map}
use Rattle.config_emit.specs.BgpSteps.{neighbor_of}
use Rattle.config_emit.specs.MapNumbers.{maps_now}
use Rattle.config_emit.specs.RouterMaps.{use_now}
use Rattle.config_emit.proofs.bgp.neighbors_of.Given as goal

abbrev pub invariant-loop-link : goal.invariant-loop-link
invariant-loop-link l =
    let neighbor = neighbor_of (maps_now l.policies.maps.items) l.policies.acts.now (map use_now l.maps.uses.items) l.numbers l.group in
    l.neighbors ++ map neighbor (drop l.link-index l.links) ≡ map neighbor l.links
