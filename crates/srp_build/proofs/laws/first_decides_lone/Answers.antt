use Rattle.srp_build.proofs.BgpMarks.{first_decides}
use Rattle.srp_build.proofs.laws.first_decides_lone.Goals as goal

pub returns : goal.returns
returns c = first_decides
