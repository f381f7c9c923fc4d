use Rattle.answer_groups.proofs.CanonLaws.{canonical_fits}
use Rattle.answer_groups.proofs.laws.canonical_fits.Goals as goal

pub returns : goal.returns
returns c = canonical_fits c.given_is_well_formed.ensures c.built_fits.ensures c.each_has_canonical.ensures
