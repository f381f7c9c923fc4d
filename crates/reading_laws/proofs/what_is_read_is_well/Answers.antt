use Rattle.reading_laws.proofs.WellRead.{reads_well}
use Rattle.reading_laws.proofs.what_is_read_is_well.Goals as goal

pub returns : goal.returns
returns c = reads_well
