use Rattle.cut_certificate.proofs.SameColors.{colors_are_aside}
use Rattle.cut_certificate.proofs.laws.colors_are_aside.Goals as goal

pub returns : goal.returns
returns c = colors_are_aside
