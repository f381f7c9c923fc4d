use Rattle.compress_laws.proofs.Texts.{fitting_plan_compresses}
use Rattle.compress_laws.proofs.laws.fitting_plan_compresses.Goals as goal

pub returns : goal.returns
returns c = fitting_plan_compresses c.fitting_plan_fits.ensures c.text_compresses.ensures
