use Rattle.std.proofs.Common.{length}
use Rattle.cfg_forms_policy.proofs.communities.+has_well_known.Given as goal

abbrev pub decreases-has_well_known : goal.decreases-has_well_known
decreases-has_well_known l = length l.words.now
