use Rattle.std.proofs.Common.{◌≡◌, length}
use Rattle.cfg_ast.specs.meaning.Topology.{neighbors_of}
use Rattle.srp_build.specs.LinePolicies.{AreFixedPolicies, ArePoliciesOf, PoliciesKept}
use Rattle.srp_build.proofs.policies.policies_of_router.Given as goal

abbrev pub invariant-loop-i : goal.invariant-loop-i
invariant-loop-i l = record {
  total : length l.numbers ≡ l.i;
  each : ArePoliciesOf l.routers l.router l.inbound l.table.firsts.items (neighbors_of l.router) l.numbers;
  fixed : AreFixedPolicies l.routers l.table;
  kept : PoliciesKept l.initial.table.firsts.items l.table.firsts.items;
}
