use Rattle.std.proofs.Common.{take}
use Rattle.std.specs.Prelude.{filter}
use Rattle.abstract_net.specs.GroupSteps.{goes_into}
use Rattle.abstract_net.proofs.Least.{AreOfOneAct}
use Rattle.abstract_net.proofs.runs.only_edge.Given as goal

abbrev pub invariant-loop-step : goal.invariant-loop-step
invariant-loop-step l = AreOfOneAct (filter (goes_into l.into_low) (take l.step-index l.run)) l.least
