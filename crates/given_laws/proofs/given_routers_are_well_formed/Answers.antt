use Rattle.given_laws.proofs.WellFormed.{given_routers_are_well_formed}
use Rattle.given_laws.proofs.given_routers_are_well_formed.Goals as goal

pub returns : goal.returns
returns c = given_routers_are_well_formed
