use Rattle.cut_certificate.proofs.NotAdmissible.{not_admissible_is_so}
use Rattle.cut_certificate.proofs.laws.not_admissible_is_so.Goals as goal

pub returns : goal.returns
returns c = not_admissible_is_so
