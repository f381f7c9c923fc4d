use Rattle.std.proofs.Common.{◌≡◌, ◌++◌, flat_map, drop}
use Rattle.srp_build.specs.BgpActs.{community_numbers}
use Rattle.srp_build.proofs.acts.push_communities.Given as goal

abbrev pub invariant-loop-case : goal.invariant-loop-case
invariant-loop-case l = l.numbers ++ flat_map community_numbers (drop l.case-index l.outs) ≡ l.fn.numbers ++ flat_map community_numbers l.outs
