use Rattle.answer_groups.proofs.CanonLines.{written_alike}
use Rattle.answer_groups.proofs.laws.maps_are_written_alike.Goals as goal

pub returns : goal.returns
returns c = written_alike
