use Rattle.std.proofs.Common.{take}
use Rattle.srp_build.specs.LinePolicies.{AreFixedPolicies, HavePolicies, PoliciesKept}
use Rattle.srp_build.proofs.policies.policies_by_router.Given as goal

abbrev pub invariant-loop-at : goal.invariant-loop-at
invariant-loop-at l = record {
  have : HavePolicies l.routers l.inbound l.table.firsts.items (take l.at l.routers) l.by_router;
  fixed : AreFixedPolicies l.routers l.table;
  kept : PoliciesKept l.initial.table.firsts.items l.table.firsts.items;
}
