use Rattle.fat_gen.proofs.Counts.{counts_by_half}
use Rattle.fat_gen.proofs.laws.counts_by_half.Goals as goal

pub returns : goal.returns
returns c = counts_by_half
