use Rattle.compress_laws.proofs.NoLarger as no_larger
use Rattle.compress_laws.proofs.emitted.emitted_is_no_larger.Goals as goal

pub returns : goal.returns
returns c = no_larger.no_larger c.no_more_groups.ensures c.no_more_links.ensures c.emitted_has_planned_links.ensures
