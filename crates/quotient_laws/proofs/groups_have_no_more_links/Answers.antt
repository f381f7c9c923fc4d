use Rattle.quotient_laws.proofs.FewLinks.{no_more_links}
use Rattle.quotient_laws.proofs.groups_have_no_more_links.Goals as goal

pub returns : goal.returns
returns c = no_more_links c.no_more_links.ensures
