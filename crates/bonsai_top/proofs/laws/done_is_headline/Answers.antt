use Rattle.bonsai_top.proofs.Headlines.{compress_is_headline, canon_is_headline}
use Rattle.bonsai_top.proofs.laws.done_is_headline.Goals as goal

pub returns-clause-compress : goal.returns-clause-compress
returns-clause-compress c = compress_is_headline c.plan_compresses.ensures

pub returns-clause-canon : goal.returns-clause-canon
returns-clause-canon c = canon_is_headline c.fitting_plan_compresses.ensures c.canonical_fits.ensures
