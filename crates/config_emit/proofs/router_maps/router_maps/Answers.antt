use Rattle.std.proofs.Common.{◌∙◌, None, map}
use Rattle.config_emit.specs.MapNumbers.{maps_now}
use Rattle.config_emit.specs.RouterMaps.{use_now, uses_on}
use Rattle.config_emit.specs.declared.act_links.ActLink.{ActLink}
use Rattle.config_emit.proofs.Uses.{uses_turn}
use Rattle.config_emit.proofs.router_maps.router_maps.Goals as goal

pub loop-link-preserved : goal.loop-link-preserved
loop-link-preserved c =
    let none : ActLink = record { number = 0; low = 0; high = 0; to_low = None; to_high = None } in
    record {
      places = c.in_ok-put_uses_on.ensures.places;
      uses = uses_turn (uses_on (maps_now c.args.policies.now.maps.items) c.args.policies.now.acts.now c.args.group) c.args.links.now c.loop-link.link-index
          none (map use_now c.loop-link.found.uses.items) (map use_now c.put_uses_on.new.found.uses.items) c.loop-link-test.true
          c.in_ok-put_uses_on.ensures.uses
          ∙ c.loop-link.invariant.uses;
    }
