use Rattle.std.proofs.Common.{◌≡◌, ◌++◌, drop}
use Rattle.srp_core.proofs.copies.acts_copy.Given as goal

abbrev pub invariant-loop-act : goal.invariant-loop-act
invariant-loop-act l = l.copies ++ drop l.act-index l.acts ≡ l.acts
