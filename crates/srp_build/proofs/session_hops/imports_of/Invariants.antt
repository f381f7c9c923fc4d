use Rattle.std.proofs.Common.{take}
use Rattle.srp_build.specs.LinePolicies.{AreImportsOf}
use Rattle.srp_build.proofs.session_hops.imports_of.Given as goal

abbrev pub invariant-loop-hop : goal.invariant-loop-hop
invariant-loop-hop l = AreImportsOf l.routers l.policies (take l.hop-index l.hops) l.imports.items
