use Rattle.quotient_laws.proofs.Pictures.{pictures_agree}
use Rattle.quotient_laws.proofs.pictures_agree.Goals as goal

pub returns : goal.returns
returns c = pictures_agree c.to_quotient.ensures c.from_quotient.ensures
