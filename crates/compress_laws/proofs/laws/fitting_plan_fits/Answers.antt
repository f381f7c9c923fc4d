use Rattle.compress_laws.proofs.Plans.{fitting_plan_fits}
use Rattle.compress_laws.proofs.laws.fitting_plan_fits.Goals as goal

pub returns : goal.returns
returns c = fitting_plan_fits c.given_is_well_formed.ensures
