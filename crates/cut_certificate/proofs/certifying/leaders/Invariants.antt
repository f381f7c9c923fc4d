use Rattle.std.proofs.Common.{◌≡◌, length}
use Rattle.cut_certificate.proofs.Leaders.{AreLeadersSoFar}
use Rattle.cut_certificate.proofs.certifying.leaders.Given as goal

abbrev pub invariant-loop-router : goal.invariant-loop-router
invariant-loop-router l = record {
  total : length l.leaders.items ≡ l.count;
  so_far : AreLeadersSoFar l.router l.numbers l.leaders.items;
}
