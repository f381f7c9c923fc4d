use Rattle.compress_laws.proofs.Texts.{plan_compresses}
use Rattle.compress_laws.proofs.laws.plan_compresses.Goals as goal

pub returns : goal.returns
returns c = plan_compresses c.built_fits.ensures c.fitting_plan_compresses.ensures
