use Rattle.std.proofs.Common.{◌≡◌, length}
use Rattle.cut_certificate.specs.Members.{AreGroupsAmong}
use Rattle.cut_certificate.proofs.groups.members.Given as goal

abbrev pub invariant-loop-router : goal.invariant-loop-router
invariant-loop-router l = record {
  total : length l.groups.items ≡ l.count;
  members : AreGroupsAmong l.router l.numbers l.groups.items;
}
