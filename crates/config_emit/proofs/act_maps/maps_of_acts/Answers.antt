use Rattle.config_emit.specs.MapNumbers.{maps_now}
use Rattle.config_emit.proofs.Known.{closed_kept, known_turn}
use Rattle.config_emit.proofs.act_maps.maps_of_acts.Goals as goal

pub loop-act-preserved : goal.loop-act-preserved
loop-act-preserved c =
    let old = maps_now c.loop-act.known.maps.items in
    let new = maps_now c.act_maps.new.known.maps.items in
    let grown = c.in_ok-act_maps.ensures.grown in
    record {
      known = c.in_ok-act_maps.ensures.known;
      closed = closed_kept c.args.closed old new c.loop-act.invariant.closed grown;
      acts = known_turn old new c.args.acts.now c.loop-act.numbers.items c.push.new.self.items c.loop-act.act-index c.act-item.result c.in_ok-act_maps.field-0
          c.loop-act-test.true c.act-item.is grown c.loop-act.invariant.acts c.in_ok-act_maps.ensures.maps c.in_ok-push.ensures.items;
    }
