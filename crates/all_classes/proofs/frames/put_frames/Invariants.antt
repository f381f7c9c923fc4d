use Rattle.std.proofs.Common.{◌-◌, ◌≤◌}
use Rattle.all_classes.specs.Progress.{HasPut}
use Rattle.all_classes.specs.Requests.{span}
use Rattle.all_classes.specs.Tellings.{IsAnswer}
use Rattle.all_classes.specs.Work.{IsWorkOf}
use Rattle.all_classes.proofs.frames.put_frames.Given as goal

-- the frames of the classes so far were put
abbrev pub invariant-loop-number : goal.invariant-loop-number
invariant-loop-number g l = record {
  above : l.from ≤ l.number;
  below : l.number - l.from ≤ span l.from l.to;
  later : g.O.Sink.faults l.fn.out ≤ g.O.Sink.faults l.out;
  work : IsWorkOf l.checked.network l.work;
  put : HasPut (IsAnswer l.command l.checked.network) l.from (l.number - l.from) l.done (g.O.Sink.taken l.fn.out) (g.O.Sink.taken l.out);
}
