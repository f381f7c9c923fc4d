use Rattle.std.proofs.Common.{◌≡◌, ◌++◌, drop, map}
use Rattle.srp_without.specs.Accepting.{is_several}
use Rattle.srp_without.proofs.marks.marks_of.Given as goal

abbrev pub invariant-loop-accepted : goal.invariant-loop-accepted
invariant-loop-accepted l = l.marks ++ map is_several (drop l.accepted-index l.met) ≡ map is_several l.met
