use Rattle.std.proofs.Common.{take}
use Rattle.config_emit.specs.MapNumbers.{maps_now, AreNumbers, KnowsClosed, AreKnown}
use Rattle.config_emit.proofs.act_maps.maps_of_acts.Given as goal

abbrev pub invariant-loop-act : goal.invariant-loop-act
invariant-loop-act l = record {
  known : AreNumbers l.known.numbers (maps_now l.known.maps.items);
  closed : KnowsClosed (maps_now l.known.maps.items) l.closed;
  acts : AreKnown (maps_now l.known.maps.items) (take l.act-index l.acts) l.numbers.items;
}
