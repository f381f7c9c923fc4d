use Rattle.std.proofs.Common.{◌≡◌, drop}
use Rattle.canon_policy.specs.Made.{lp_in}
use Rattle.canon_policy.proofs.entries.preference_of.Given as goal

abbrev pub invariant-loop-case : goal.invariant-loop-case
invariant-loop-case l = lp_in l.store l.present (drop l.case-index l.lps) ≡ lp_in l.store l.present l.lps
