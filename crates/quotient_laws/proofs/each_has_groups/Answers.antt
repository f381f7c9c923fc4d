use Rattle.quotient_laws.proofs.Numbered.{each_has_groups}
use Rattle.quotient_laws.proofs.each_has_groups.Goals as goal

pub returns : goal.returns
returns c = each_has_groups c.joins.ensures.coarsest
