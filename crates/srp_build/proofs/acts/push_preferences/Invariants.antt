use Rattle.std.proofs.Common.{◌≡◌, ◌++◌, flat_map, drop}
use Rattle.srp_build.specs.BgpActs.{case_numbers}
use Rattle.srp_build.proofs.acts.push_preferences.Given as goal

abbrev pub invariant-loop-case : goal.invariant-loop-case
invariant-loop-case l = l.numbers ++ flat_map case_numbers (drop l.case-index l.lps) ≡ l.fn.numbers ++ flat_map case_numbers l.lps
