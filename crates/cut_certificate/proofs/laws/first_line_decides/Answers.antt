use Rattle.cut_certificate.proofs.LineFaults.{first_line_decides}
use Rattle.cut_certificate.proofs.laws.first_line_decides.Goals as goal

pub returns : goal.returns
returns c = first_line_decides
