use Rattle.canon_policy.proofs.WrittenAlike.{written_alike}
use Rattle.canon_policy.proofs.laws.alike_acts_are_written_alike.Goals as goal

pub returns : goal.returns
returns c = written_alike
