use Rattle.compress_laws.proofs.Plans.{plan_fits}
use Rattle.compress_laws.proofs.laws.plan_fits.Goals as goal

pub returns : goal.returns
returns c = plan_fits c.built_fits.ensures c.fitting_plan_fits.ensures
