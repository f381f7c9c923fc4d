use Rattle.abstract_net.proofs.Fewer.{no_more_links}
use Rattle.abstract_net.proofs.laws.no_more_links.Goals as goal

pub returns : goal.returns
returns c = no_more_links
