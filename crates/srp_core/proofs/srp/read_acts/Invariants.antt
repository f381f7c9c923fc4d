use Rattle.std.proofs.Common.{All, take}
use Rattle.srp_core.specs.Acts.{KeepsSets}
use Rattle.srp_core.proofs.srp.read_acts.Given as goal

abbrev pub invariant-loop-act : goal.invariant-loop-act
invariant-loop-act l = All KeepsSets (take l.act-index l.acts)
