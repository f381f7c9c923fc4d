use Rattle.compress_laws.proofs.Plans.{built_fits}
use Rattle.compress_laws.proofs.laws.built_fits.Goals as goal

pub returns : goal.returns
returns c = built_fits c.given_is_well_formed.ensures c.acts_print.ensures c.acts_stay_within.ensures
