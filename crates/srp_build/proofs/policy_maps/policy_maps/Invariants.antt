use Rattle.std.proofs.Common.{take}
use Rattle.srp_build.specs.LineMaps.{AreMapsOfPolicies}
use Rattle.srp_build.proofs.policy_maps.policy_maps.Given as goal

abbrev pub invariant-loop-first : goal.invariant-loop-first
invariant-loop-first l = AreMapsOfPolicies l.p l.routers (take l.first-index l.firsts) l.plains.maps.items l.numbers.items
