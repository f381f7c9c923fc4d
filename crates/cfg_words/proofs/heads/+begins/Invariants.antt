use Rattle.std.proofs.Common.{length}
use Rattle.cfg_words.proofs.heads.+begins.Given as goal

abbrev pub decreases-begins : goal.decreases-begins
decreases-begins l = length l.head.now
